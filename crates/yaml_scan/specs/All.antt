-- All tokens of an input, in one call.
use Rattle.std.specs.Prelude.{◌≡◌, ◌⊎◌, ℕ, ◌≤◌, false, true, List, map, take, Option, None, Some}
use Rattle.std.specs.List.{list_any}
use Rattle.yaml_text.specs.Fault.{Fault, memory_fault}
use Rattle.yaml_text.specs.declared.types.yaml_encoding_t.{yaml_encoding_t}
use Rattle.yaml_text.specs.declared.types.yaml_encoding_t.TheVariants.{YAML_UTF8_ENCODING}
use Rattle.yaml_scan.specs.Course.{Course, course}
use Rattle.yaml_scan.specs.Token.{yaml_token_t, type_of}
use Rattle.yaml_scan.specs.TokenTypes.{is_last_type}
use Rattle.yaml_scan.specs.Begins.{Begins}
use Rattle.yaml_scan.specs.Depth.{depth}
use Rattle.yaml_scan.specs.Groups.{handed_out}
use Rattle.yaml_scan.specs.Answers.{Answers}
use Rattle.yaml_scan.specs.Session.{all_steps}
use Rattle.yaml_scan.specs.Sessions.{settled_tokens}
use Rattle.yaml_scan.specs.Inputs.{answers_to}
use Rattle.yaml_scan.specs.Decoded.{decoded_input}
use Rattle.yaml_scan.specs.AnswerLaws.{ends_among, starts_among, of_text_among, tokens_of_cut, EndsAs, EndsAsFront}

-- these are all tokens of the answers, and their fault
abbrev pub AllOf : Answers → List yaml_token_t → Option Fault → Type 0
AllOf a tokens fault = (tokens ≡ a.tokens) × (fault ≡ a.fault)

abbrev pub course_to : ℕ → yaml_encoding_t → List ℕ → Course
course_to limit setting input = course limit (decoded_input setting input)

-- these are the tokens that some of the steps settle, and no stream end is among them
pub record AreSettled (limit : ℕ) (setting : yaml_encoding_t) (input : List ℕ) (tokens : List yaml_token_t) : Type 0
  where
    pub steps : ℕ
    pub within : steps ≤ all_steps (course_to limit setting input)
    pub tokens_are : tokens
        ≡ map (handed_out (decoded_input setting input).encoding)
        (settled_tokens limit (course_to limit setting input) steps)
    -- the tokens are a beginning of all tokens
    pub beginning : Begins tokens (answers_to limit setting input).tokens
    -- memory is refused to the decoding of UTF-16, or in the first step or after it
    pub in_utf8 : (decoded_input setting input).encoding ≡ YAML_UTF8_ENCODING
        → (course_to limit setting input).begun ≡ true
    pub no_end : list_any (λ t. is_last_type (type_of t.token_data)) tokens ≡ false

-- What reading an input to its end returns: all of it, or a growth was refused after some of the steps.
abbrev pub ReadsAll : ℕ → yaml_encoding_t → List ℕ → List yaml_token_t → Option Fault → Type 0
ReadsAll limit setting input tokens fault = AllOf (answers_to limit setting input) tokens fault
    ⊎ (AreSettled limit setting input tokens × (fault ≡ Some memory_fault))

-- in every beginning there are at most as many block ends as block starts
abbrev pub EndNoMore : List yaml_token_t → Type 0
EndNoMore tokens = (n : ℕ) → ends_among (take n tokens) ≤ starts_among (take n tokens)

-- how deep in flow collections an input ends
abbrev pub depth_of : ℕ → yaml_encoding_t → List ℕ → ℕ
depth_of limit setting input = depth (course_to limit setting input).read

-- if the stream ended outside flow collections there are as many block ends as block starts
abbrev pub EndAll : ℕ → List yaml_token_t → Option Fault → Type 0
EndAll depth tokens fault = fault ≡ None → depth ≡ 0 → ends_among tokens ≡ starts_among tokens

-- without what the layout inserted, these are in order the tokens of STREAM-START and of the first lexemes of the
-- input, and of all its lexemes if there is no fault
abbrev pub TellLexemes : ℕ → yaml_encoding_t → List ℕ → List yaml_token_t → Option Fault → Type 0
TellLexemes limit setting input tokens fault =
    Begins (of_text_among tokens) (tokens_of_cut limit (decoded_input setting input))
    × (fault ≡ None → of_text_among tokens ≡ tokens_of_cut limit (decoded_input setting input))

-- there is no fault exactly if the input is accepted and its cut ends with the stream end, and a fault is the reader's
-- or that of the step after the cut, as its place in a refused front decides; or the fault is of kind memory
abbrev pub TellFault : ℕ → yaml_encoding_t → List ℕ → Option Fault → Type 0
TellFault limit setting input fault =
    (EndsAs limit (decoded_input setting input) fault × EndsAsFront limit (decoded_input setting input) fault)
    ⊎ (fault ≡ Some memory_fault)

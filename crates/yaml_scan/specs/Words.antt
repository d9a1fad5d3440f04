-- What is returned can be put in words.
use Rattle.std.specs.Prelude.{ℕ, ◌≢◌, List, [], ◌∷◌, Option, IsSome, IfSome}
use Rattle.yaml_text.specs.Fault.{Fault}
use Rattle.yaml_text.specs.declared.types.yaml_encoding_t.{yaml_encoding_t}
use Rattle.yaml_text.specs.declared.types.yaml_encoding_t.TheVariants.{YAML_ANY_ENCODING}
use Rattle.yaml_text.specs.declared.types.yaml_error_type_t.{yaml_error_type_t}
use Rattle.yaml_text.specs.declared.types.yaml_error_type_t.TheVariants.{YAML_MEMORY_ERROR, YAML_READER_ERROR}
use Rattle.yaml_text.specs.declared.types.yaml_error_type_t.TheVariants.{YAML_SCANNER_ERROR}
use Rattle.yaml_text.specs.declared.types.yaml_scalar_style_t.TheVariants.{YAML_ANY_SCALAR_STYLE}
use Rattle.yaml_text.specs.Token.TokenData.{STREAM_START, SCALAR}
use Rattle.yaml_scan.specs.Course.{course}
use Rattle.yaml_scan.specs.Token.{yaml_token_t, unnamed_yaml_token_t_data}
use Rattle.yaml_scan.specs.Inputs.{answers_to}
use Rattle.yaml_scan.specs.Decoded.{decoded_input}
use Rattle.yaml_scan.specs.Session.{Session, Call, Answer}
use Rattle.yaml_scan.specs.Sessions.{session}
use Rattle.yaml_scan.specs.Session.Answer.{TOKEN, PEEKED, SKIPPED, NOTHING, FAULT}

-- the encoding of a stream and the style of a scalar are set
abbrev pub HasWords : unnamed_yaml_token_t_data → Type 0
HasWords (STREAM_START encoding) = encoding ≢ YAML_ANY_ENCODING
HasWords (SCALAR value style) = style ≢ YAML_ANY_SCALAR_STYLE
HasWords _ = Unit {0}

abbrev pub HasLineAs : yaml_error_type_t → Fault → Type 0
HasLineAs YAML_READER_ERROR f = IsSome f.problem
HasLineAs YAML_SCANNER_ERROR f = IsSome f.problem
HasLineAs YAML_MEMORY_ERROR f = Unit {0}
HasLineAs _ f = ⊥

-- a fault is of kind memory, or of kind reader or scanner with a problem text
abbrev pub HasLine : Fault → Type 0
HasLine f = HasLineAs f.error f

-- each of the tokens
abbrev pub HaveWords : List yaml_token_t → Type 0
HaveWords [] = Unit {0}
HaveWords (t ∷ ts) = HasWords t.token_data × HaveWords ts

-- the tokens and the fault of an answer
abbrev pub HaveLines : List yaml_token_t → Option Fault → Type 0
HaveLines tokens fault = HaveWords tokens × IfSome fault HasLine

-- the answers to any input
abbrev pub AllHaveLines : Type 0
AllHaveLines = (limit : ℕ) (setting : yaml_encoding_t) (input : List ℕ)
    → HaveLines (answers_to limit setting input).tokens (answers_to limit setting input).fault

-- an answer to a call, of which a peek shows a type and marks alone
abbrev pub AnswerHasLine : Answer → Type 0
AnswerHasLine (TOKEN token) = HasWords token.token_data
AnswerHasLine (PEEKED token) = Unit {0}
AnswerHasLine SKIPPED = Unit {0}
AnswerHasLine NOTHING = Unit {0}
AnswerHasLine (FAULT fault) = HasLine fault

abbrev pub AnswersHaveLines : List Answer → Type 0
AnswersHaveLines [] = Unit {0}
AnswersHaveLines (a ∷ more) = AnswerHasLine a × AnswersHaveLines more

-- whatever the calls, and in every state of the session
abbrev pub SessionsHaveLines : Type 0
SessionsHaveLines = (limit : ℕ) (setting : yaml_encoding_t) (input : List ℕ) (calls : List Call) (s : Session)
    → AnswersHaveLines (session (decoded_input setting input).encoding limit
    (course limit (decoded_input setting input)) calls s)

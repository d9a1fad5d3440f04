-- Marks are counted from the front of the text (YAML 1.1, section 5.4): each mark that is handed out is that of a place
-- of the text, so none is between CR and LF. The one exception is the mark of the end of a stream.
use Rattle.std.specs.Prelude.{◌≡◌, ◌⊎◌, ℕ, List, [], ◌∷◌, length, Some, IfSome}
use Rattle.yaml_text.specs.Fault.{Fault}
use Rattle.yaml_text.specs.Decode.{front}
use Rattle.yaml_text.specs.Mark.{IsMarkAt, mark_at}
use Rattle.yaml_text.specs.declared.types.yaml_encoding_t.{yaml_encoding_t}
use Rattle.yaml_text.specs.declared.types.yaml_mark_t.{yaml_mark_t}
use Rattle.yaml_text.specs.declared.types.yaml_token_type_t.{yaml_token_type_t}
use Rattle.yaml_text.specs.declared.types.yaml_token_type_t.TheVariants.{YAML_STREAM_END_TOKEN, YAML_BLOCK_END_TOKEN}
use Rattle.yaml_scan.specs.Course.{course}
use Rattle.yaml_scan.specs.Inputs.{answers_to}
use Rattle.yaml_scan.specs.Decoded.{decoded_input}
use Rattle.yaml_scan.specs.Session.{Session, Call, Answer}
use Rattle.yaml_scan.specs.Sessions.{session, session_reach}
use Rattle.yaml_scan.specs.Session.Answer.{TOKEN, PEEKED, SKIPPED, NOTHING, FAULT}
use Rattle.yaml_scan.specs.Step.{end_of, no_colon}
use Rattle.yaml_scan.specs.Token.{yaml_token_t, type_of}

-- the mark is that of a place of the text
abbrev pub IsCounted : List ℕ → yaml_mark_t → Type 0
IsCounted text mark = (p : ℕ) × IsMarkAt text mark p

-- the mark of the end of a stream: that of the end of the text, moved to the start of the next line if its column is
-- not 0
abbrev pub IsStreamEnd : List ℕ → yaml_mark_t → Type 0
IsStreamEnd text mark = mark ≡ end_of (mark_at text (length text))

-- a mark of a token of this type: only a stream end has the mark of the end of a stream, and block ends that are there
abbrev pub HasMark : List ℕ → yaml_token_type_t → yaml_mark_t → Type 0
HasMark text YAML_STREAM_END_TOKEN mark = IsStreamEnd text mark
HasMark text YAML_BLOCK_END_TOKEN mark = IsCounted text mark ⊎ IsStreamEnd text mark
HasMark text _ mark = IsCounted text mark

-- both marks of a token
abbrev pub TokenIsCounted : List ℕ → yaml_token_t → Type 0
TokenIsCounted text t = HasMark text (type_of t.token_data) t.start_mark
    × HasMark text (type_of t.token_data) t.end_mark

abbrev pub TokensAreCounted : List ℕ → List yaml_token_t → Type 0
TokensAreCounted text [] = Unit {0}
TokensAreCounted text (t ∷ ts) = TokenIsCounted text t × TokensAreCounted text ts

-- a problem is at the end of a stream if a `:` was still missing there
abbrev pub IsLostAtEnd : List ℕ → Fault → Type 0
IsLostAtEnd text f = (f.problem ≡ Some no_colon) × IsStreamEnd text f.problem_mark

-- both marks of a fault, of which those of kind memory and reader have zero marks
abbrev pub FaultIsCounted : List ℕ → Fault → Type 0
FaultIsCounted text f = (IsCounted text f.problem_mark ⊎ IsLostAtEnd text f) × IsCounted text f.context_mark

-- the text of an input: its front, decoded
abbrev pub text_of_input : yaml_encoding_t → List ℕ → List ℕ
text_of_input setting input = (front setting input).chars

-- all tokens of an input, and its fault
abbrev pub AnswersAreCounted : Type 0
AnswersAreCounted = (limit : ℕ) (setting : yaml_encoding_t) (input : List ℕ)
    → TokensAreCounted (text_of_input setting input) (answers_to limit setting input).tokens
    × IfSome (answers_to limit setting input).fault (FaultIsCounted (text_of_input setting input))

-- an answer to a call
abbrev pub AnswerIsCounted : List ℕ → Answer → Type 0
AnswerIsCounted text (TOKEN token) = TokenIsCounted text token
AnswerIsCounted text (PEEKED token) = TokenIsCounted text token
AnswerIsCounted text SKIPPED = Unit {0}
AnswerIsCounted text NOTHING = Unit {0}
AnswerIsCounted text (FAULT fault) = FaultIsCounted text fault

abbrev pub AllAreCounted : List ℕ → List Answer → Type 0
AllAreCounted text [] = Unit {0}
AllAreCounted text (a ∷ more) = AnswerIsCounted text a × AllAreCounted text more

-- whatever the calls, and in every state of the session
abbrev pub SessionsAreCounted : Type 0
SessionsAreCounted = (limit : ℕ) (setting : yaml_encoding_t) (input : List ℕ) (calls : List Call) (s : Session)
    → AllAreCounted (text_of_input setting input)
    (session (decoded_input setting input).encoding limit (course limit (decoded_input setting input)) calls s)

-- how far the last step was read
abbrev pub ReachIsCounted : Type 0
ReachIsCounted = (limit : ℕ) (setting : yaml_encoding_t) (input : List ℕ) (s : Session)
    → let mark = session_reach (course limit (decoded_input setting input)) s in
    IsCounted (text_of_input setting input) mark ⊎ IsStreamEnd (text_of_input setting input) mark

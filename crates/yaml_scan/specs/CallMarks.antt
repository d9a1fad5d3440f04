-- The marks of the answers to the calls of a parser are counted in the text of its input.
use Rattle.std.specs.Prelude.{ℕ, List, [], ◌∷◌, ◌⊎◌, Option, IfSome}
use Rattle.yaml_text.specs.Fault.{Fault}
use Rattle.yaml_text.specs.declared.types.yaml_encoding_t.{yaml_encoding_t}
use Rattle.yaml_text.specs.declared.types.yaml_mark_t.{yaml_mark_t}
use Rattle.yaml_scan.specs.Seen.{Seen}
use Rattle.yaml_scan.specs.Seen.Seen.{TOKEN, PEEKED, SKIPPED, NOTHING, FAULT}
use Rattle.yaml_scan.specs.CountedMarks.{IsCounted, IsStreamEnd, HasMark, TokenIsCounted, TokensAreCounted}
use Rattle.yaml_scan.specs.CountedMarks.{FaultIsCounted, AnswerIsCounted, text_of_input}
use Rattle.yaml_scan.specs.Parser.{Parser}
use Rattle.yaml_scan.specs.Session.{Answer}
use Rattle.yaml_scan.specs.Token.{yaml_token_t}

-- the text of a parser's input
abbrev pub text_read : Parser → List ℕ
text_read p = text_of_input p.setting p.input

-- the answer to a call
abbrev pub IsCountedIn : Parser → Answer → Type 0
IsCountedIn p a = AnswerIsCounted (text_read p) a

-- how far a parser has read: a counted mark, or that of the end of the stream
abbrev pub ReachesTo : Parser → yaml_mark_t → Type 0
ReachesTo p mark = IsCounted (text_read p) mark ⊎ IsStreamEnd (text_read p) mark

-- what is seen of an answer
abbrev pub SeenIsCounted : List ℕ → Seen → Type 0
SeenIsCounted text (TOKEN token) = TokenIsCounted text token
SeenIsCounted text (PEEKED type start end) = HasMark text type start × HasMark text type end
SeenIsCounted text SKIPPED = Unit {0}
SeenIsCounted text NOTHING = Unit {0}
SeenIsCounted text (FAULT fault) = FaultIsCounted text fault

abbrev pub SeenAreCounted : List ℕ → List Seen → Type 0
SeenAreCounted text [] = Unit {0}
SeenAreCounted text (a ∷ more) = SeenIsCounted text a × SeenAreCounted text more

-- the tokens and the fault of an input
abbrev pub AllIsCounted : yaml_encoding_t → List ℕ → List yaml_token_t → Option Fault → Type 0
AllIsCounted setting input tokens fault =
    TokensAreCounted (text_of_input setting input) tokens
    × IfSome fault (FaultIsCounted (text_of_input setting input))

-- What comes next, as far as it is known.
use Rattle.std.specs.Prelude.{ℕ, length, Option, Some, None}
use Rattle.yaml_text.specs.Fault.{Fault}
use Rattle.yaml_text.specs.Token.{Token}
use Rattle.yaml_scan.specs.KeptCalls.{token_peeked}
use Rattle.yaml_scan.specs.Parser.{Parser}
use Rattle.yaml_c.specs.Ahead.{Ahead}
use Rattle.yaml_c.specs.Ahead.Ahead.{NONE, READ_FAULT, ALL_GIVEN}
use Rattle.yaml_c.specs.Answer.{fault_texts}
use Rattle.yaml_c.specs.Record.{texts_of}

-- it is not known, it is this token or this fault, or nothing comes any more
pub data Next : Type 0 where
  UNKNOWN : Next
  TOKEN : Token → Next
  FAULT : Fault → Next
  OVER : Next

-- a token that a parser shows, if it shows one
abbrev pub shown_next : Option Token → Next
shown_next None = UNKNOWN
shown_next (Some t) = TOKEN t

-- what a parser shows, unless the fault or the end was read ahead
abbrev pub next_of : Parser → Ahead → Next
next_of p NONE = shown_next (token_peeked p)
next_of p (READ_FAULT f) = FAULT f
next_of p ALL_GIVEN = OVER

-- how many bytes of texts it has
abbrev pub need : Next → ℕ
need UNKNOWN = 0
need (TOKEN t) = length (texts_of t)
need (FAULT f) = length (fault_texts (Some f))
need OVER = 0

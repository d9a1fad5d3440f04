-- What the calls of a kept parser say of the parser that it was kept of.
use Rattle.std.specs.Prelude.{◌≡◌, ◌⊎◌, ℕ, false, true, List, [], ◌∷◌, ◌++◌, Option, None, Some, if◌then◌else◌}
use Rattle.yaml_text.specs.Fault.{Fault}
use Rattle.yaml_scan.specs.All.{ReadsAll}
use Rattle.yaml_scan.specs.Decoded.{decoded_input}
use Rattle.yaml_scan.specs.Headline.{Calls}
use Rattle.yaml_scan.specs.Parser.{Parser}
use Rattle.yaml_scan.specs.ParserCalls.{token_shown}
use Rattle.yaml_scan.specs.Scanned.{Scanned, GoesOnBy}
use Rattle.yaml_scan.specs.Session.{Call}
use Rattle.yaml_scan.specs.Session.Answer.{FAULT}
use Rattle.yaml_scan.specs.Sink.{said_len}
use Rattle.yaml_scan.specs.Token.{yaml_token_t}

-- the token that was shown and was not taken since
abbrev pub token_peeked : Parser → Option yaml_token_t
token_peeked p = if p.session.peeked then Some (token_shown p) else None

-- a token that was shown is the first of these, or there are none and it is still shown
abbrev pub ComesFirst : Option yaml_token_t → List yaml_token_t → Parser → Type 0
ComesFirst None tokens q = Unit {0}
ComesFirst (Some t) [] q = token_peeked q ≡ Some t
ComesFirst (Some t) (x ∷ tokens) q = x ≡ t

-- Why no more tokens go to a sink: the stream end went there, or the sink has no room for a token, or none for the
-- texts of the next token, which is shown.
abbrev pub HasNoMoreRoom : (ℕ → ℕ → Type 0) → Parser → Type 0
HasNoMoreRoom lacks q = (q.session.over ≡ true) ⊎ lacks 1 0
    ⊎ ((t : yaml_token_t) × (token_peeked q ≡ Some t) × lacks 1 (said_len t.token_data))

-- The next tokens went to a sink, and q stands after them, in the same input. After the end of the session there are
-- none, and q is p.
pub record GivesMore (p q : Parser) (took : List yaml_token_t → Type 0) : Type 0 where
  pub input : q.input ≡ p.input
  pub tokens : List yaml_token_t
  pub given : took tokens
  pub on : GoesOnBy p tokens q q.session.over
  pub first : ComesFirst (token_peeked p) tokens q
  pub at_end : p.session.over ≡ true → (tokens ≡ []) × (q ≡ p)

-- The next tokens went to a sink, and then a call found this fault, which ends the session: it was not over before. The
-- input is the same.
pub record GivesToFault (call : Call) (p q : Parser) (took : List yaml_token_t → Type 0) (fault : Fault) : Type 0 where
  pub still_open : p.session.over ≡ false
  pub input : q.input ≡ p.input
  pub tokens : List yaml_token_t
  pub given : took tokens
  pub last : Parser
  pub on : GoesOnBy p tokens last false
  pub ended : Calls decoded_input call last (FAULT fault) q
  pub reads : (given : List yaml_token_t) → Scanned p.limit p.setting p.input p given false
      → ReadsAll p.limit p.setting p.input (given ++ tokens) (Some fault)
  pub first : ComesFirst (token_peeked p) tokens q

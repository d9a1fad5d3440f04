-- What the calls of a scanner that is given its input in pieces say.
use Rattle.std.specs.Prelude.{◌≡◌, ◌⊎◌, ℕ, Bool, true, false, List, [], ◌∷◌, take, drop, Option, None, Some}
use Rattle.yaml_text.specs.Fault.{Fault}
use Rattle.yaml_scan.specs.Fed.{Fed, GivesOf, MayBe, Why, comes}
use Rattle.yaml_scan.specs.Fed.Why.{NO_ROOM, MORE, WHOLE, OVER, FAULT}
use Rattle.yaml_scan.specs.Inputs.{answers_to}
use Rattle.yaml_scan.specs.Sink.{said_len}
use Rattle.yaml_scan.specs.Token.{yaml_token_t}
use Rattle.yaml_scan.specs.declared.fed.yaml_fed_t.{yaml_fed_t}
use Rattle.yaml_scan.specs.declared.fed.yaml_fed_t.TheVariants as code
use Rattle.yaml_scan.specs.declared.fed.yaml_fed_parser_t.{yaml_fed_parser_t}
use Rattle.yaml_scan.specs.inside.Feeding.{IsFed}

-- the reason that a call returns
abbrev pub IsWhy : yaml_fed_t → Fed → Why → Type 0
IsWhy code.ROOM q w = w ≡ NO_ROOM
IsWhy code.MORE q w = w ≡ MORE
IsWhy code.OVER q w = w ≡ OVER
IsWhy code.WHOLE q w = w ≡ WHOLE
IsWhy code.FAULT q w = (f : Fault) × (q.session.fault ≡ Some f) × (w ≡ FAULT f)

-- the next token of every input that the bytes so far may begin
abbrev pub IsNextOf : Fed → yaml_token_t → Type 0
IsNextOf q t = (input : List ℕ) → MayBe q.whole q.given input
    → take 1 (drop q.session.taken (answers_to q.limit q.setting input).tokens) ≡ t ∷ []

-- this token is shown, or none is
abbrev pub IsPeeked : Fed → Option yaml_token_t → Type 0
IsPeeked q None = q.session.peeked ≡ false
IsPeeked q (Some t) = (q.session.peeked ≡ true) × IsNextOf q t

-- A sink has no room for a token, or none for the texts of the next one, which is shown.
abbrev pub HasNoRoom : (ℕ → ℕ → Type 0) → Fed → Type 0
HasNoRoom lacks q = lacks 1 0
    ⊎ ((t : yaml_token_t) × (q.session.peeked ≡ true) × IsNextOf q t × lacks 1 (said_len t.token_data))

-- A call gave a sink the next tokens, and this is why it gave no more.
pub record GivesFed
    (p : Fed) (k : yaml_fed_parser_t) (result : yaml_fed_t) (took : List yaml_token_t → Type 0) (lacks : ℕ → ℕ → Type 0)
    : Type 0 where
  pub left : Fed
  pub is : IsFed left k
  pub tokens : List yaml_token_t
  pub given : took tokens
  pub why : Why
  pub is_why : IsWhy result left why
  pub gives : GivesOf p tokens why left
  pub room : result ≡ code.ROOM → HasNoRoom lacks left

-- A parser that is given its input in pieces is one of the longer input too, once more of it came.
abbrev pub FedGoesOn : Type 0
FedGoesOn = (p : Fed) (k : yaml_fed_parser_t) (bytes : List ℕ) (last : Bool) → p.whole ≡ false → IsFed p k
    → IsFed (comes p bytes last) k

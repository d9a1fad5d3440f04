-- The longest list of steps of a text, and what is read of a text that is in its order.
use Rattle.std.specs.Prelude.{◌≡◌, ℕ, ◌≤◌, ◌<◌, Bool, true, false, List, [], ◌∷◌, Option, Some, None, Ok, Err}
use Rattle.std.specs.Prelude.{nat_lt}
use Rattle.yaml_scan.specs.Course.{Cut, longest, ended}
use Rattle.yaml_scan.specs.Kind.{Kind, is_stream_end, is_key, is_value}
use Rattle.yaml_scan.specs.Token.{unnamed_yaml_token_t_data, type_of, zero_mark}
use Rattle.yaml_scan.specs.TokenTypes.{is_last_type}
use Rattle.yaml_scan.specs.TokenTypes.{is_end_type, is_start_type, is_key_type, is_value_type}
use Rattle.yaml_scan.specs.Laid.{Laid}
use Rattle.yaml_scan.specs.Levels.{laid}
use Rattle.yaml_scan.specs.Order.{IsNotBefore, Follows}
use Rattle.yaml_scan.specs.Source.{Source, Reading, Offence}
use Rattle.yaml_scan.specs.Step.{Outcome, step, lexeme_of}
use Rattle.yaml_scan.specs.Step.Outcome.{Reads, Faults}

-- of a text alone
unfoldable pub cut : Source → ℕ → Cut
cut S limit = longest (step S limit) S.size limit

-- each lexeme of H is the outcome of the step after those before it
abbrev pub IsRun : (List Laid → Outcome) → ℕ → List Laid → Type 0
IsRun step limit [] = Unit {0}
IsRun step limit (i ∷ H) = (i ≡ laid limit H i.lexeme) × (step H ≡ Reads i.lexeme) × IsRun step limit H
    × (ended H ≡ false)

-- H is the longest such list, and o the offence after it
abbrev pub EndsWith : (List Laid → Outcome) → List Laid → Option Offence → Type 0
EndsWith step H None = ended H ≡ true
EndsWith step H (Some o) = (ended H ≡ false) × (step H ≡ Faults o)

-- the token of a lexeme is a KEY, a VALUE or the end of the stream if the lexeme is one, and none that the layout
-- inserts
pub record SaysKind (k : Kind) (says : unnamed_yaml_token_t_data) : Type 0 where
  pub key : is_key_type (type_of says) ≡ is_key k
  pub value : is_value_type (type_of says) ≡ is_value k
  pub last : is_last_type (type_of says) ≡ is_stream_end k
  pub no_start : is_start_type (type_of says) ≡ false
  pub no_end : is_end_type (type_of says) ≡ false

-- what is read at place p follows what was read up to there, and is in the text
pub record IsReadInOrder (S : Source) (k : Kind) (p : ℕ) (r : Reading) : Type 0 where
  pub follows : Follows (S.mark p) (lexeme_of k (S.mark p) r)
  pub says : SaysKind k r.token_data
  pub within : r.place ≤ S.size
  pub takes_a_character : is_stream_end k ≡ false → p < r.place
  pub reach : is_stream_end k ≡ false → r.reach ≡ S.mark r.place
  pub ends : is_stream_end k ≡ true → r.place ≡ S.size

-- what is read of a text is in its order
pub record KeepsOrder (S : Source) : Type 0 where
  pub begins : S.mark 0 ≡ zero_mark
  pub gap_within : (flow allowed : Bool) (p : ℕ) → p ≤ S.size
      → (p ≤ S.gap flow allowed p) × (S.gap flow allowed p ≤ S.size)
  pub gap_marks : (flow allowed : Bool) (p : ℕ) → p ≤ S.size → IsNotBefore (S.mark p) (S.mark (S.gap flow allowed p))
  pub reads : (k : Kind) (d : ℕ) (l : Option ℕ) (p : ℕ) (r : Reading) → p ≤ S.size → S.kind (nat_lt 0 d) p ≡ Some k
      → S.read k d l p ≡ Ok r → IsReadInOrder S k p r
  pub offends : (k : Kind) (d : ℕ) (l : Option ℕ) (p : ℕ) (o : Offence) → p ≤ S.size → S.kind (nat_lt 0 d) p ≡ Some k
      → S.read k d l p ≡ Err o → (p ≤ o.place) × (o.place ≤ S.size)

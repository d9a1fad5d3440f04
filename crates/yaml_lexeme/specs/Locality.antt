-- What depends on no character eight or more past the place where reading ends.
use Rattle.std.specs.Prelude.{◌≡◌, ℕ, ◌+◌, ◌<◌, Bool, slice_get, Ok, Err}
use Rattle.yaml_lexeme.specs.Place.{Place, skip}
use Rattle.yaml_lexeme.specs.Order.{distance}
use Rattle.yaml_lexeme.specs.Reading.{Read, found, refuse}
use Rattle.yaml_lexeme.specs.declared.kind.yaml_lexeme_kind_t.{yaml_lexeme_kind_t}
use Rattle.yaml_lexeme.specs.Gap.{gap}
use Rattle.yaml_lexeme.specs.Kind.{kind_at}
use Rattle.yaml_lexeme.specs.declared.lex.yaml_context_t.{yaml_context_t}
use Rattle.yaml_lexeme.specs.Lex.{lex}

-- two places with the same mark and the same n characters next, with the end counted as one
pub record Agree (n : ℕ) (p q : Place) : Type 0 where
  pub mark : p.mark ≡ q.mark
  pub same : (i : ℕ) → i < n → slice_get p.rest i ≡ slice_get q.rest i

-- the place where reading ended, or was refused
abbrev pub reach : {A : Type 0} → Read A → Place
reach (Ok f) = f.end
reach (Err e) = e.at

-- the same that was read, with another place after it
abbrev pub move : {A : Type 0} → Read A → Place → Read A
move (Ok f) q = found f.value q
move (Err e) q = refuse e.problem q

-- Reading from q on gives the same as from p on, and ends as far on, if p and q have as many characters in common as
-- were read from p on, and eight more.
abbrev pub IsLocal : {A : Type 0} → (Place → Read A) → Type 0
IsLocal read = (p q : Place) → let k = distance p (reach (read p)) in
    Agree (k + 8) p q → read q ≡ move (read p) (skip k q)

-- a gap, which is read up to its end
abbrev pub GapIsLocal : Type 0
GapIsLocal = (flow allowed : Bool) (p q : Place) → let k = distance p (gap flow allowed p).0 in
    Agree (k + 8) p q → gap flow allowed q ≡ (skip k q, (gap flow allowed p).1)

-- a kind, from eight characters
abbrev pub KindIsLocal : Type 0
KindIsLocal = (flow : Bool) (p q : Place) → Agree 8 p q → kind_at flow q ≡ kind_at flow p

-- lexemes of every kind
abbrev pub LexIsLocal : Type 0
LexIsLocal = (k : yaml_lexeme_kind_t) (c : yaml_context_t) → IsLocal (lex k c)

-- A kind depends on four characters.
use Rattle.std.proofs.Common.{◌≡◌, Bool, refl, subst, arith, inl, inr}
use Rattle.yaml_lexeme.specs.Kind.{kind_at}
use Rattle.yaml_lexeme.proofs.Locality.AgreeingPlaces.{Agree, by_agreeing}
use Rattle.yaml_lexeme.specs.Locality.{KindIsLocal}
use Rattle.yaml_lexeme.specs.Place.{Place}

pub kind_local : (flow : Bool) (p q : Place) → Agree 8 p q → kind_at flow q ≡ kind_at flow p
unfolding kind_at
kind_local flow p q a = rw (a.mark, a.same 0 (omega arith), a.same 1 (omega arith), a.same 2 (omega arith), a.same 3 (omega arith)) refl

pub kind_is_local : KindIsLocal
kind_is_local flow p q a = elim (by_agreeing 8 p q a) [
  | inl same ↦ subst (λ (x : Place). kind_at flow x ≡ kind_at flow p) same refl
  | inr long ↦ kind_local flow p q long
]

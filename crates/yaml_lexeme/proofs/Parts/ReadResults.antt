-- What was read, taken apart into its value and its place.
use Rattle.std.proofs.Common.{◌≡◌, Ok, Err, sym, ap, ◌∙◌}
use Rattle.yaml_lexeme.specs.Place.{Place}
use Rattle.yaml_lexeme.specs.Reading.{Offence, Found, Read, found}

abbrev pub value_or : {A : Type 0} → A → Read A → A
value_or a (Ok f) = f.value
value_or a (Err e) = a

abbrev pub end_or : {A : Type 0} → Place → Read A → Place
end_or p (Ok f) = f.end
end_or p (Err e) = p

abbrev pub offence_or : {A : Type 0} → Offence → Read A → Offence
offence_or o (Ok f) = o
offence_or o (Err e) = e

pub both : {A : Type 0} (f : Found A) (v : A) (e : Place) → f.value ≡ v → f.end ≡ e → found v e ≡ Ok f
both {A} f v e hv he = ap (λ (x : A). found x e) (sym hv) ∙ ap (λ (x : Place). found f.value x) (sym he)

-- What is read or refused in steps and by tests.
use Rattle.std.proofs.Common.{◌≡◌, Bool, true, false, not, ◌⊎◌, inl, inr, if◌then◌else◌, Result, Ok, Err, refl, sym, ap, ◌∙◌}
use Rattle.yaml_lexeme.specs.declared.problem.yaml_problem_t.{yaml_problem_t}
use Rattle.yaml_lexeme.specs.Place.{Place}
use Rattle.yaml_lexeme.specs.Reading.{Offence, refuse, ◌>>=◌}

-- a test, of whose two cases the first reads, and the second refuses
pub passed : {A B : Type 0} → (b : Bool) (x y : A) (o : B) → (if b then Ok x else Err o) ≡ Ok y → (b ≡ true) × (y ≡ x)
passed true x y o h = (refl, cc)
passed false x y o h = absurd cc

pub failed : {A B : Type 0} → (b : Bool) (x : A) (o e : B) → (if b then Ok x else Err o) ≡ Err e → (b ≡ false) × (e ≡ o)
failed true x o e h = absurd cc
failed false x o e h = (refl, cc)

-- the same if the first refuses
pub unless_passed : {A B : Type 0} → (b : Bool) (x y : A) (o : B) → (if b then Err o else Ok x) ≡ Ok y → (b ≡ false) × (y ≡ x)
unless_passed true x y o h = absurd cc
unless_passed false x y o h = (refl, cc)

pub unless_failed : {A B : Type 0} → (b : Bool) (x : A) (o e : B) → (if b then Err o else Ok x) ≡ Err e → (b ≡ true) × (e ≡ o)
unless_failed true x o e h = (refl, cc)
unless_failed false x o e h = absurd cc

-- a test before what is read, which refuses if it holds
pub unless_ok : {A B : Type 0} → (b : Bool) (r : Result A B) (o : B) (y : A) → (if b then Err o else r) ≡ Ok y → (b ≡ false) × (r ≡ Ok y)
unless_ok true r o y h = absurd cc
unless_ok false r o y h = (refl, h)

pub unless_err : {A B : Type 0} → (b : Bool) (r : Result A B) (o e : B) → (if b then Err o else r) ≡ Err e → ((b ≡ true) × (e ≡ o)) ⊎ ((b ≡ false) × (r ≡ Err e))
unless_err true r o e h = inl (refl, cc)
unless_err false r o e h = inr (refl, h)

pub not_so : (b : Bool) → not b ≡ true → b ≡ false
not_so true h = absurd cc
not_so false h = refl

pub taken : {A : Type 0} → (b : Bool) (x y : A) → b ≡ true → (if b then x else y) ≡ x
taken b x y h = rw h refl

pub left : {A : Type 0} → (b : Bool) (x y : A) → b ≡ false → (if b then x else y) ≡ y
left b x y h = rw h refl

-- two steps that read
pub steps : {A B : Type 0} → (r : Result A Offence) (k : A → Result B Offence) (y : B) → (r >>= k) ≡ Ok y → (x : A) × (r ≡ Ok x) × (k x ≡ Ok y)
steps (Ok x) k y h = (x, refl, h)
steps (Err e) k y h = absurd cc

-- the first refuses, or the second
pub stops : {A B : Type 0} → (r : Result A Offence) (k : A → Result B Offence) (e : Offence) → (r >>= k) ≡ Err e → (r ≡ Err e) ⊎ ((x : A) × (r ≡ Ok x) × (k x ≡ Err e))
stops (Ok x) k e h = inr (x, refl, h)
stops (Err o) k e h = let same : o ≡ e = cc in inl (ap (λ (x : Offence). Err x) same)

pub then_second : {A B : Type 0} → (r : Result A Offence) (k : A → Result B Offence) (x : A) (s : Result B Offence) → r ≡ Ok x → k x ≡ s → (r >>= k) ≡ s
then_second {A} r k x s h t = ap (λ (z : Result A Offence). z >>= k) h ∙ t

pub first_refused : {A B : Type 0} → (r : Result A Offence) (k : A → Result B Offence) (e : Offence) → r ≡ Err e → (r >>= k) ≡ Err e
first_refused {A} r k e h = ap (λ (z : Result A Offence). z >>= k) h

-- an offence by its problem and its place
pub offence_is : {A : Type 0} → (e : Offence) (problem : yaml_problem_t) (q : Place) → e.problem ≡ problem → e.at ≡ q → refuse {A = A} problem q ≡ Err e
offence_is e problem q h a = ap (λ (x : yaml_problem_t). refuse x q) (sym h) ∙ ap (λ (x : Place). refuse e.problem x) (sym a)

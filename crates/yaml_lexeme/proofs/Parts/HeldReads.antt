-- What holds of what was read, and of the place of an offence.
use Rattle.std.proofs.Common.{◌≡◌, ◌<◌, Bool, true, false, if◌then◌else◌, length, Option, Some, None, Result, Ok, Err, refl}
use Rattle.yaml_lexeme.proofs.Parts.PartByPart.{IsShorter}
use Rattle.yaml_lexeme.specs.Place.{Place}
use Rattle.yaml_lexeme.specs.Reading.{Offence, Found, Read, refuse, ◌>>=◌, Part}
use Rattle.yaml_lexeme.specs.declared.problem.yaml_problem_t.{yaml_problem_t}

abbrev pub Held : {B : Type 0} → (B → Type 0) → (Place → Type 0) → Result B Offence → Type 0
Held Q E (Ok x) = Q x
Held Q E (Err e) = E e.at

pub record Holds {B : Type 0} (Q : B → Type 0) (E : Place → Type 0) (r : Result B Offence) : Type 0 where
  pub held : Held Q E r

pub ok_holds : {B : Type 0} {Q : B → Type 0} {E : Place → Type 0} {x : B} → Q x → Holds Q E (Ok x)
ok_holds h = record { held = h }

pub refuse_holds : {B : Type 0} {Q : B → Type 0} {E : Place → Type 0} {q : Place} {problem : yaml_problem_t} → E q → Holds Q E (refuse problem q)
refuse_holds h = record { held = h }

pub if_holds : {B : Type 0} {Q : B → Type 0} {E : Place → Type 0} {x y : Result B Offence} → (b : Bool) → (b ≡ true → Holds Q E x) → (b ≡ false → Holds Q E y) → Holds Q E (if b then x else y)
if_holds {B} {Q} {E} {x} {y} true hx hy = hx refl
if_holds {B} {Q} {E} {x} {y} false hx hy = hy refl

bind_in : {A B : Type 0} (Q : A → Type 0) (R : B → Type 0) (E : Place → Type 0) (r : Result A Offence) (f : A → Result B Offence) → Held Q E r → ((x : A) → Q x → Holds R E (f x)) → Holds R E (r >>= f)
bind_in Q R E (Ok x) f h g = g x h
bind_in Q R E (Err e) f h g = record { held = h }

pub bind_holds : {A B : Type 0} {Q : A → Type 0} {R : B → Type 0} {E : Place → Type 0} {r : Result A Offence} {f : A → Result B Offence} → Holds Q E r → ((x : A) → Q x → Holds R E (f x)) → Holds R E (r >>= f)
bind_holds {A} {B} {Q} {R} {E} {r} {f} h g = bind_in Q R E r f h.held g

so_in : {B : Type 0} (Q R : B → Type 0) (E F : Place → Type 0) (r : Result B Offence) → Held Q E r → ((x : B) → Q x → R x) → ((x : Place) → E x → F x) → Holds R F r
so_in Q R E F (Ok x) h g f = record { held = g x h }
so_in Q R E F (Err e) h g f = record { held = f e.at h }

-- what follows from it
pub so_holds : {B : Type 0} {Q R : B → Type 0} {E F : Place → Type 0} {r : Result B Offence} → Holds Q E r → ((x : B) → Q x → R x) → ((x : Place) → E x → F x) → Holds R F r
so_holds {B} {Q} {R} {E} {F} {r} h g f = so_in Q R E F r h.held g f

-- what was read ends nearer to the text's end
abbrev pub Nears : {A : Type 0} → Place → Read A → Type 0
Nears p r = Holds (λ f. length f.end.rest < length p.rest) (λ x. Unit {0}) r

abbrev pub PartNear : {A : Type 0} → Place → Option (Found A) → Type 0
PartNear p None = Unit {0}
PartNear p (Some f) = length f.end.rest < length p.rest

abbrev pub PartNears : {A : Type 0} → Place → Part A → Type 0
PartNears p r = Holds (PartNear p) (λ x. Unit {0}) r

pub nears_shorter : {A : Type 0} (p : Place) (r : Part A) → PartNears p r → IsShorter p r
nears_shorter p (Ok (Some f)) h = h.held
nears_shorter p (Ok None) h = tt
nears_shorter p (Err e) h = tt

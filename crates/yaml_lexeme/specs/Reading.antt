-- Readers: what is read at a place, or the first offence.
use Rattle.std.specs.Prelude.{ℕ, zero, suc, ◌+◌, List, [], ◌∷◌, ◌++◌, length, Option, Some, None, Result, Ok, Err}
use Rattle.yaml_lexeme.specs.declared.problem.yaml_problem_t.{yaml_problem_t}
use Rattle.yaml_lexeme.specs.Place.{Place}

-- a problem, and its place
pub record Offence : Type 0 where
  pub problem : yaml_problem_t
  pub at : Place

-- what was read, and the place after it
pub record Found (A : Type 0) : Type 0 where
  pub value : A
  pub end : Place

abbrev pub Read : Type 0 → Type 0
Read A = Result (Found A) Offence

abbrev pub found : {A : Type 0} → A → Place → Read A
found a p = Ok (record { value = a; end = p })

abbrev pub refuse : {A : Type 0} → yaml_problem_t → Place → Result A Offence
refuse problem p = Err (record { problem = problem; at = p })

infixl 10 ◌>>=◌
abbrev pub ◌>>=◌ : {A B : Type 0} → Result A Offence → (A → Result B Offence) → Result B Offence
(Ok x) >>= f = f x
(Err e) >>= f = Err e

-- One of the parts of a list: the part and the place after it, or nothing if the list is over.
abbrev pub Part : Type 0 → Type 0
Part A = Result (Option (Found A)) Offence

abbrev pub part : {A : Type 0} → A → Place → Part A
part a p = Ok (Some (record { value = a; end = p }))

abbrev pub over : {A : Type 0} → Part A
over = Ok None

abbrev pub with_front : {A : Type 0} → List A → Read (List A) → Read (List A)
with_front front read = read >>= λ r. found (front ++ r.value) r.end

abbrev pub go_on : {A : Type 0} → (Place → Read (List A)) → Place → Option (Found A) → Read (List A)
go_on more p None = found [] p
go_on more p (Some a) = with_front (a.value ∷ []) (more a.end)

-- at most n parts
unfoldable pub at_most : {A : Type 0} → (Place → Part A) → ℕ → Place → Read (List A)
at_most one zero p = found [] p
at_most one (suc n) p = one p >>= λ a. go_on (at_most one n) p a

-- The longest list of parts, each of which takes a character or more.
abbrev pub many : {A : Type 0} → (Place → Part A) → Place → Read (List A)
many one p = at_most one (length p.rest + 1) p

-- What a function of the code returned, and what the definitions read.
use Rattle.std.specs.Prelude.{ℕ, Bool, List, ◌++◌, Some, None, Result, Ok, Err, true, false, ◌≡◌}
use Rattle.yaml_lexeme.specs.declared.problem.yaml_refusal_t.{yaml_refusal_t}
use Rattle.yaml_lexeme.specs.declared.problem.yaml_refusal_t.TheVariants as errors
use Rattle.yaml_lexeme.specs.Place.{Place, skip}
use Rattle.yaml_lexeme.specs.Uri.{octet}
use Rattle.yaml_lexeme.specs.Reading.{Offence, Read, found, refuse, Part}

-- What a function of the code returned, seen by view, is what reading gives, unless memory ran out. The cursor
-- is then after what was read, or at the offence.
abbrev pub Refuses : {A : Type 0} → yaml_refusal_t → Place → Result A Offence → Type 0
Refuses errors.MEMORY p read = Unit {0}
Refuses (errors.OFFENCE problem) p read = read ≡ refuse problem p

abbrev pub Gives : {A B : Type 0} → (A → B) → Result A yaml_refusal_t → Place → Read B → Type 0
Gives view (Ok a) p read = read ≡ found (view a) p
Gives view (Err e) p read = Refuses e p read

-- A part was read from p on, and its bytes were appended to `old`, or the list is over.
abbrev pub TakesPart : {A : Type 0} → (A → List ℕ) → Part A → Bool → List ℕ → List ℕ → Place → Place → Type 0
TakesPart bytes (Ok (Some f)) true old new p q = (new ≡ old ++ bytes f.value) × (q ≡ f.end)
TakesPart bytes (Ok None) false old new p q = (new ≡ old) × (q ≡ p)
TakesPart bytes _ _ old new p q = ⊥

abbrev pub Takes : {A : Type 0} →
    (A → List ℕ) → Result Bool yaml_refusal_t → List ℕ → List ℕ → Place → Place → Part A → Type 0
Takes bytes (Ok more) old new p q read = TakesPart bytes read more old new p q
Takes bytes (Err e) old new p q read = Refuses e q read

-- The same of what is read once.
abbrev pub TakesRead : {A : Type 0} → (A → List ℕ) → Read A → List ℕ → List ℕ → Place → Type 0
TakesRead bytes (Ok f) old new q = (new ≡ old ++ bytes f.value) × (q ≡ f.end)
TakesRead bytes (Err e) old new q = ⊥

abbrev pub Appends : {A : Type 0} →
    (A → List ℕ) → Result (Unit {0}) yaml_refusal_t → List ℕ → List ℕ → Place → Read A → Type 0
Appends bytes (Ok _) old new q read = TakesRead bytes read old new q
Appends bytes (Err e) old new q read = Refuses e q read

-- The same of a step that only moves on.
abbrev pub Moves : Result (Unit {0}) yaml_refusal_t → Place → Result Place Offence → Type 0
Moves (Ok _) q read = read ≡ Ok q
Moves (Err e) q read = Refuses e q read

-- the octet that an escape at a place spells
abbrev pub OctetIs : Result ℕ yaml_refusal_t → Place → Type 0
OctetIs (Ok c) p = octet p ≡ found c (skip 3 p)
OctetIs (Err e) p = Refuses e p (octet p)

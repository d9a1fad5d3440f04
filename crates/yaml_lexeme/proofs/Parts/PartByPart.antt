-- A list of parts is its first part and the list after it.
use Rattle.std.proofs.Common.{◌≡◌, ℕ, zero, suc, ◌+◌, ◌<◌, true, false, List, [], ◌∷◌, ◌++◌, length, Some, None, Ok, Err, refl, sym, ap, ◌∙◌, arith, append_assoc}
use Rattle.std.proofs.lemmas.List.{append-nil}
use Rattle.std.specs.List.{flat_map}
use Rattle.yaml_lexeme.specs.declared.problem.yaml_refusal_t.{yaml_refusal_t}
use Rattle.yaml_lexeme.specs.declared.problem.yaml_refusal_t.TheVariants as errors
use Rattle.yaml_lexeme.specs.inside.Gives.{Refuses, TakesPart}
use Rattle.yaml_lexeme.specs.Place.{Place}
use Rattle.yaml_lexeme.specs.Reading.{Read, found, ◌>>=◌, Part, over, with_front, go_on, at_most, many}

-- a part takes a character or more
abbrev pub IsShorter : {A : Type 0} → Place → Part A → Type 0
IsShorter p (Ok (Some f)) = length f.end.rest < length p.rest
IsShorter p (Ok None) = Unit {0}
IsShorter p (Err e) = Unit {0}

abbrev pub Shortens : {A : Type 0} → (Place → Part A) → Type 0
Shortens one = (p : Place) → IsShorter p (one p)

same_turn : {A : Type 0} → (f g : Place → Read (List A)) (p : Place) (r : Part A) → IsShorter p r → ((q : Place) → length q.rest < length p.rest → f q ≡ g q)
    → (r >>= λ a. go_on f p a) ≡ (r >>= λ a. go_on g p a)
same_turn f g p (Ok (Some a)) short same = ap (with_front (a.value ∷ [])) (same a.end short)
same_turn f g p (Ok None) short same = refl
same_turn f g p (Err e) short same = refl

-- how many parts are allowed does not matter, if they are enough
any_fuel : {A : Type 0} → (one : Place → Part A) → Shortens one → (n m : ℕ) (p : Place) → length p.rest < n → length p.rest < m → at_most one n p ≡ at_most one m p
unfolding at_most
any_fuel one short zero m p hn hm = absurd (omega arith)
any_fuel one short (suc n) zero p hn hm = absurd (omega arith)
any_fuel one short (suc n) (suc m) p hn hm =
    same_turn (at_most one n) (at_most one m) p (one p) (short p) (λ q h. any_fuel one short n m q (omega arith) (omega arith))

one_turn : {A : Type 0} → (one : Place → Part A) (n : ℕ) (p : Place) → at_most one (suc n) p ≡ one p >>= λ a. go_on (at_most one n) p a
unfolding at_most
one_turn one n p = refl

-- the first part, and the others
pub many_turn : {A : Type 0} → (one : Place → Part A) → Shortens one → (p : Place) → many one p ≡ one p >>= λ a. go_on (many one) p a
many_turn one short p =
    let k : length p.rest + 1 ≡ suc (length p.rest) = omega arith in
    rw k (one_turn one (length p.rest) p
    ∙ same_turn (at_most one (length p.rest)) (many one) p (one p) (short p) (λ q h. any_fuel one short (length p.rest) (length q.rest + 1) q (omega arith) (omega arith)))

-- the bytes of the parts
abbrev pub joined : {A : Type 0} → (A → List ℕ) → Read (List A) → Read (List ℕ)
joined bytes parts = parts >>= λ r. found (flat_map bytes r.value) r.end

-- Parts are being read: the bytes so far, what is still to be read, and what that makes.
abbrev pub Reading : {A : Type 0} → (A → List ℕ) → (Place → Part A) → Place → List ℕ → Read (List ℕ) → Type 0
Reading bytes one p out whole = with_front out (joined bytes (many one p)) ≡ whole

pub no_front : (r : Read (List ℕ)) → with_front [] r ≡ r
no_front (Ok r) = refl
no_front (Err e) = refl

pub begins : {A : Type 0} → (bytes : A → List ℕ) (one : Place → Part A) (p : Place) → Reading bytes one p [] (joined bytes (many one p))
begins bytes one p = no_front (joined bytes (many one p))

push : {A : Type 0} → (bytes : A → List ℕ) (out : List ℕ) (a : A) (r : Read (List A))
    → with_front out (joined bytes (with_front (a ∷ []) r)) ≡ with_front (out ++ bytes a) (joined bytes r)
push bytes out a (Ok r) = ap (λ (bs : List ℕ). found bs r.end) (sym (append_assoc out (bytes a) (flat_map bytes r.value)))
push bytes out a (Err e) = refl

turn : {A : Type 0} → (bytes : A → List ℕ) (more : Place → Read (List A)) (r : Part A) (p q : Place) (out new : List ℕ) → IsShorter p r → TakesPart bytes r true out new p q
    → (length q.rest < length p.rest) × (with_front out (joined bytes (r >>= λ a. go_on more p a)) ≡ with_front new (joined bytes (more q)))
turn bytes more (Ok (Some f)) p q out new short (value, end) = (rw end short, push bytes out f.value (more f.end) ∙ rw (← value, ← end) refl)
turn bytes more (Ok None) p q out new short h = absurd h
turn bytes more (Err e) p q out new short h = absurd h

-- one more part was read
pub reads_more : {A : Type 0} → (bytes : A → List ℕ) (one : Place → Part A) → Shortens one → (p q : Place) (out new : List ℕ) (whole : Read (List ℕ))
    → TakesPart bytes (one p) true out new p q → Reading bytes one p out whole → (length q.rest < length p.rest) × Reading bytes one q new whole
reads_more bytes one short p q out new whole h so_far =
    let t = turn bytes (many one) (one p) p q out new (short p) h in
    (t.0, sym t.1 ∙ ap (λ r. with_front out (joined bytes r)) (sym (many_turn one short p)) ∙ so_far)

last : {A : Type 0} → (bytes : A → List ℕ) (more : Place → Read (List A)) (r : Part A) (p q : Place) (out new : List ℕ) → TakesPart bytes r false out new p q
    → with_front out (joined bytes (r >>= λ a. go_on more p a)) ≡ found new q
last bytes more (Ok (Some f)) p q out new h = absurd h
last bytes more (Ok None) p q out new (value, end) = rw (value, end) (ap (λ (bs : List ℕ). found bs p) (append-nil out))
last bytes more (Err e) p q out new h = absurd h

-- the list is over
pub reads_all : {A : Type 0} → (bytes : A → List ℕ) (one : Place → Part A) → Shortens one → (p q : Place) (out new : List ℕ) (whole : Read (List ℕ))
    → TakesPart bytes (one p) false out new p q → Reading bytes one p out whole → whole ≡ found new q
reads_all bytes one short p q out new whole h so_far =
    sym so_far ∙ ap (λ r. with_front out (joined bytes r)) (many_turn one short p) ∙ last bytes (many one) (one p) p q out new h

refused : {A : Type 0} → (bytes : A → List ℕ) (more : Place → Read (List A)) (e : yaml_refusal_t) (r : Part A) (p q : Place) (out : List ℕ) → Refuses e q r
    → Refuses e q (with_front out (joined bytes (r >>= λ a. go_on more p a)))
refused bytes more errors.MEMORY r p q out h = tt
refused bytes more (errors.OFFENCE problem) r p q out h = rw h refl

-- a list that is over takes nothing
pub over_taken : {A : Type 0} → (bytes : A → List ℕ) (r : Part A) (out : List ℕ) (q : Place) → r ≡ over → TakesPart bytes r false out out q q
over_taken bytes r out q e = rw e (refl, refl)

-- a part could not be read
pub reads_none : {A : Type 0} → (bytes : A → List ℕ) (one : Place → Part A) → Shortens one → (e : yaml_refusal_t) (p q : Place) (out : List ℕ) (whole : Read (List ℕ))
    → Refuses e q (one p) → Reading bytes one p out whole → Refuses e q whole
reads_none bytes one short e p q out whole h so_far =
    rw (sym so_far ∙ ap (λ r. with_front out (joined bytes r)) (many_turn one short p)) (refused bytes (many one) e (one p) p q out h)

-- Lists of parts whose end looks ahead are local together with what is read after them.
use Rattle.std.proofs.Common.{◌≡◌, ℕ, zero, suc, ◌+◌, ◌<◌, Bool, true, false, if◌then◌else◌, subst, List, [], ◌∷◌, length, Some, None, Ok, Err, refl, sym, ap, ◌∙◌, arith}
use Rattle.yaml_lexeme.proofs.Locality.ComposedReaders.{Like, IsLike, found_here, refuse_here, like_bind, like_map, like_clear}
use Rattle.yaml_lexeme.proofs.CountedMarks.WholePlaces.{Clear, clear_nearer}
use Rattle.yaml_lexeme.proofs.MarkOrder.ReadingAhead.{PartAhead}
use Rattle.yaml_lexeme.specs.Locality.{reach}
use Rattle.yaml_lexeme.proofs.Parts.PartByPart.{IsShorter, Shortens, many_turn}
use Rattle.yaml_lexeme.specs.Place.{Place}
use Rattle.yaml_lexeme.specs.Reading.{Read, found, refuse, ◌>>=◌, Part, part, with_front, go_on, many}
use Rattle.yaml_lexeme.specs.declared.problem.yaml_problem_t.TheVariants.{END_OF_TEXT}

pub data Next (A B : Type 0) : Type 0 where
  go : A → Next A B
  stop : B → Next A B

abbrev after : {A B : Type 0} → Next A B → (Place → Read (List A × B)) → Place → Read (List A × B)
after (go a) more e = more e >>= λ r. found (a ∷ r.value.0, r.value.1) r.end
after (stop b) more e = found ([], b) e

loop : {A B : Type 0} → (Place → Read (Next A B)) → ℕ → Place → Read (List A × B)
loop turn zero p = refuse END_OF_TEXT p
loop turn (suc f) p = turn p >>= λ x. after x.value (loop turn f) x.end

after_like : {A B : Type 0} (v : Next A B) (more : Place → Read (List A × B)) → IsLike more → IsLike (after v more)
after_like {A} {B} (go a) more all n p q s = like_map (λ (r : List A × B). (a ∷ r.0, r.1)) (all n p q s)
after_like {A} {B} (stop b) more all n p q s = found_here

loop_like : {A B : Type 0} (turn : Place → Read (Next A B)) → IsLike turn → (f : ℕ) → IsLike (loop turn f)
unfolding loop
loop_like turn all zero n p q a = refuse_here
loop_like turn all (suc f) n p q a = like_bind _ _ a (all n p q a) (λ x z m b. after_like x.value (loop turn f) (loop_like turn all f) m x.end z b)

-- a part, or the end
abbrev pub join : {A B : Type 0} → Part A → Read B → Read (Next A B)
join (Ok (Some f)) fin = found (go f.value) f.end
join (Ok None) fin = fin >>= λ b. found (stop b.value) b.end
join (Err e) fin = Err e

abbrev pub with_parts : {A B : Type 0} → List A → Read B → Read (List A × B)
with_parts ls r = r >>= λ b. found (ls, b.value) b.end

abbrev one_more : {A B : Type 0} → A → Read (List A × B) → Read (List A × B)
one_more a r = r >>= λ t. found (a ∷ t.value.0, t.value.1) t.end

abbrev stopping : {A B : Type 0} → Read B → Read (Next A B)
stopping r = r >>= λ b. found (stop b.value) b.end

abbrev turning : {A B : Type 0} → (Place → Read (List A × B)) → Read (Next A B) → Read (List A × B)
turning more r = r >>= λ x. after x.value more x.end

-- the parts, and what is read after them
abbrev pub finish : {A B : Type 0} → (Place → Read B) → Read (List A) → Read (List A × B)
finish fin parts = parts >>= λ ls. with_parts ls.value (fin ls.end)

front_finish : {A B : Type 0} (a : A) (ls : List A) (r : Read B) → with_parts (a ∷ ls) r ≡ one_more a (with_parts ls r)
front_finish a ls (Ok b) = refl
front_finish a ls (Err e) = refl

finish_front : {A B : Type 0} (fin : Place → Read B) (a : A) (r : Read (List A)) → finish fin (with_front (a ∷ []) r) ≡ one_more a (finish fin r)
finish_front fin a (Ok ls) = front_finish a ls.value (fin ls.end)
finish_front fin a (Err e) = refl

stop_here : {A B : Type 0} (more : Place → Read (List A × B)) (r : Read B) → with_parts [] r ≡ turning more (stopping r)
stop_here more (Ok b) = refl
stop_here more (Err e) = refl

turn_loop : {A B : Type 0} (one : Place → Part A) (fin : Place → Read B) (more : Place → Read (List A × B)) (p : Place) (r : Part A) → IsShorter p r
    → ((x : Place) → length x.rest < length p.rest → finish fin (many one x) ≡ more x) → finish fin (r >>= λ a. go_on (many one) p a) ≡ turning more (join r (fin p))
turn_loop one fin more p (Ok (Some f)) short all = finish_front fin f.value (many one f.end) ∙ ap (one_more f.value) (all f.end short)
turn_loop one fin more p (Ok None) short all = stop_here more (fin p)
turn_loop one fin more p (Err e) short all = refl

loops : {A B : Type 0} (one : Place → Part A) (fin : Place → Read B) (turn : Place → Read (Next A B)) → Shortens one → ((p : Place) → turn p ≡ join (one p) (fin p)) → (f : ℕ) (p : Place) → length p.rest < f
    → finish fin (many one p) ≡ loop turn f p
unfolding loop
loops one fin turn short is zero p h = absurd (omega arith)
loops one fin turn short is (suc f) p h =
    ap (finish fin) (many_turn one short p) ∙ turn_loop one fin (loop turn f) p (one p) (short p) (λ x l. loops one fin turn short is f x (omega arith))
    ∙ ap (turning (loop turn f)) (sym (is p))

pub finish_like : {A B : Type 0} (one : Place → Part A) (fin : Place → Read B) (turn : Place → Read (Next A B)) → Shortens one → ((p : Place) → turn p ≡ join (one p) (fin p)) → IsLike turn → IsLike (λ p. finish fin (many one p))
finish_like one fin turn short is all n p q a =
    let f = length p.rest + length q.rest + 1 in
    rw (loops one fin turn short is f p (omega arith), loops one fin turn short is f q (omega arith)) (loop_like turn all f n p q a)

-- the parts alone
alone : {A : Type 0} (r : Read (List A)) → r ≡ (finish (λ x. found {A = Unit {0}} tt x) r >>= λ t. found t.value.0 t.end)
alone (Ok f) = refl
alone (Err e) = refl

pub many_like : {A : Type 0} (one : Place → Part A) (turn : Place → Read (Next A (Unit {0}))) → Shortens one → ((p : Place) → turn p ≡ join (one p) (found tt p)) → IsLike turn → IsLike (many one)
many_like {A} one turn short is all n p q a =
    subst (λ (r : Read (List A)). Like n p q r (many one q)) (sym (alone (many one p)))
    (subst (λ (r : Read (List A)). Like n p q (finish (λ x. found {A = Unit {0}} tt x) (many one p) >>= λ t. found t.value.0 t.end) r) (sym (alone (many one q)))
    (like_map (λ (t : List A × Unit {0}). t.0) (finish_like one (λ x. found tt x) turn short is all n p q a)))

-- a turn, from the rows of a part
pub record Joins {A B : Type 0} (r : Read (Next A B)) (x : Part A) (fin : Read B) : Type 0 where
  pub joined : r ≡ join x fin

pub join_if : {A B : Type 0} {x y : Part A} {u v : Read (Next A B)} {fin : Read B} → (b : Bool) → (b ≡ true → Joins u x fin) → (b ≡ false → Joins v y fin) → Joins (if b then u else v) (if b then x else y) fin
join_if {A} {B} {x} {y} {u} {v} {fin} true e f = e refl
join_if {A} {B} {x} {y} {u} {v} {fin} false e f = f refl

pub join_part : {A B C : Type 0} (g : C → A) (r : Read C) (fin : Read B) → Joins (r >>= λ x. found (go (g x.value)) x.end) (r >>= λ x. part (g x.value) x.end) fin
join_part g (Ok f) fin = record { joined = refl }
join_part g (Err e) fin = record { joined = refl }

-- where a part ends
abbrev pub PartClear : {A : Type 0} → Place → Part A → Type 0
PartClear p (Ok (Some f)) = Clear p f.end
PartClear p (Ok None) = Unit {0}
PartClear p (Err e) = Clear p e.at

ends_clear : {A B : Type 0} (p : Place) (r : Part A) (fin : Read B) → Clear p (reach (join r fin)) → PartClear p r
ends_clear p (Ok (Some f)) fin h = h
ends_clear p (Ok None) fin h = tt
ends_clear p (Err e) fin h = h

pub part_clear : {A B : Type 0} (one : Place → Part A) (fin : Place → Read B) (turn : Place → Read (Next A B)) → ((p : Place) → turn p ≡ join (one p) (fin p)) → IsLike turn → (p : Place) → PartClear p (one p)
part_clear {A} {B} one fin turn is all p = ends_clear p (one p) (fin p) (subst (λ (r : Read (Next A B)). Clear p (reach r)) (is p) (like_clear turn all p))

-- a part that ends at a clear place and takes a character or more
pub advances : {A : Type 0} (p : Place) (r : Part A) → PartClear p r → IsShorter p r → PartAhead 1 p r
advances p (Ok (Some f)) h s = clear_nearer p f.end h s
advances p (Ok None) h s = tt
advances p (Err e) h s = tt

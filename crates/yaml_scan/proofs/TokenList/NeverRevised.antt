-- Tokens that were handed out are never revised, since a candidate that a `:` completes was still waiting.
use Rattle.std.proofs.Common.{◌≡◌, ℕ, ◌≤◌, ◌&&◌, Bool, true, false, List, [], ◌∷◌, ◌++◌, length, length-append, filter, Option, Some, None, refl, ap, sym, ◌∙◌, subst, arith, eqb, eq-eqb, ne_eqb, ltb, lt-ltb, le-ltb, inl, inr, append_assoc, append-nil}
use Rattle.std.specs.Prelude.{option_map}
use Rattle.std.proofs.lemmas.Bool.{cases_Bool, and_from}
use Rattle.yaml_scan.specs.Groups.{inserted, group, groups, block_ends}
use Rattle.yaml_scan.specs.Settled.{is_current, last_of, or_else, up_to}
use Rattle.yaml_scan.specs.Groups.Token.{OfLexeme}
use Rattle.yaml_scan.specs.Begins.{Begins}
use Rattle.yaml_scan.specs.Laid.{Laid, reach, names}
use Rattle.yaml_scan.specs.Keys.{candidate, live}
use Rattle.yaml_scan.specs.Depth.{depth}
use Rattle.yaml_scan.specs.Levels.{is_completed, opens}
use Rattle.yaml_scan.specs.Order.{IsHistory, IsNotBefore}
use Rattle.yaml_scan.proofs.History.KeyCandidates.{none_is_not, some_is, candidate_split}
use Rattle.yaml_scan.proofs.History.HistoryOrder.{to_start, number_at, start_to_reach, live_earlier, completed_is}

-- BEGINNINGS
pub Begins-refl : {A : Type 0} (xs : List A) → Begins xs xs
Begins-refl xs = record { rest = []; is = sym (append-nil xs) }

pub Begins-more : {A : Type 0} (xs ys : List A) → Begins xs (xs ++ ys)
Begins-more xs ys = record { rest = ys; is = refl }

pub Begins-trans : {A : Type 0} (xs ys zs : List A) → Begins xs ys → Begins ys zs → Begins xs zs
Begins-trans {A = A} xs ys zs h k = record { rest = h.rest ++ k.rest; is = k.is ∙ ap (λ (l : List A). l ++ k.rest) h.is ∙ append_assoc xs h.rest k.rest }

pub Begins-eq : {A : Type 0} (xs ys : List A) → xs ≡ ys → Begins xs ys
Begins-eq xs ys e = record { rest = []; is = sym e ∙ sym (append-nil xs) }

-- GROUPS
-- the groups of a tail come first
pub groups-append : (W A B : List Laid) → Begins (groups W B) (groups W (A ++ B))
unfolding groups
groups-append W [] B = Begins-refl _
groups-append W (i ∷ A) B = Begins-trans _ _ _ (groups-append W A B) (Begins-more _ _)

-- and then the block ends of the next lexeme
pub groups-ends : (W A : List Laid) (c : Laid) (B : List Laid) → Begins (groups W B ++ block_ends c) (groups W (A ++ c ∷ B))
unfolding groups group
groups-ends W A c B =
    Begins-trans _ _ _
    (record { rest = inserted W c ++ (OfLexeme c.lexeme ∷ []); is = sym (append_assoc (groups W B) (block_ends c) (inserted W c ++ (OfLexeme c.lexeme ∷ []))) })
    (groups-append W A (c ∷ B))

-- a lexeme that completes none of them leaves their groups
abbrev pub AllOther : Laid → List Laid → Type 0
AllOther i [] = Unit {0}
AllOther i (c ∷ B) = (names c.number i.completed ≡ false) × AllOther i B

pub is_completed-other : (i : Laid) (W : List Laid) (c : Laid) → names c.number i.completed ≡ false → is_completed (i ∷ W) c ≡ is_completed W c
unfolding is_completed
is_completed-other i W c e = rw e refl

pub opens-other : (i : Laid) (W : List Laid) (c : Laid) → names c.number i.completed ≡ false → opens (i ∷ W) c ≡ opens W c
unfolding opens
opens-other i W c e = rw (is_completed-other i W c e) refl

pub group-other : (i : Laid) (W : List Laid) (c : Laid) → names c.number i.completed ≡ false → group (i ∷ W) c ≡ group W c
unfolding group inserted
group-other i W c e = rw (opens-other i W c e, is_completed-other i W c e) refl

pub groups-other : (i : Laid) (W B : List Laid) → AllOther i B → groups (i ∷ W) B ≡ groups W B
unfolding groups
groups-other i W [] h = refl
groups-other i W (c ∷ B) h = rw (groups-other i W B h.1, group-other i W c h.0) refl

-- by numbers: i completes nothing below n
pub other_below : (limit : ℕ) (i : Laid) (B : List Laid) → IsHistory limit B → ((n : ℕ) → i.completed ≡ Some n → length B ≤ n) → AllOther i B
other_below limit i [] h k = tt
other_below limit i (c ∷ B) h k =
    (go i.completed refl, other_below limit i B h.2 (λ n e. let l = k n e in omega arith))
  where
    go : (o : Option ℕ) → i.completed ≡ o → names c.number i.completed ≡ false
    go None e = rw e refl
    go (Some m) e = let ne : eqb m c.number ≡ false = ne_eqb _ _ (λ q. let l = k m e in let n = number_at limit [] c B h in omega arith) in rw e ne

-- THE EARLIEST LIVE CANDIDATE
abbrev pub is_live_candidate : ℕ → List Laid → Laid → Bool
is_live_candidate limit H i = is_current H i && live limit i (reach H)

pub number_in : (limit : ℕ) (H A : List Laid) (c : Laid) (B : List Laid) → H ≡ A ++ c ∷ B → IsHistory limit H → c.number ≡ length B
number_in limit H A c B e h = number_at limit A c B (subst (λ (X : List Laid). IsHistory limit X) e h)

pub start_in : (limit : ℕ) (H A : List Laid) (c : Laid) (B : List Laid) → H ≡ A ++ c ∷ B → IsHistory limit H → IsNotBefore c.lexeme.start (reach H)
start_in limit H A c B e h = subst (λ (X : List Laid). IsHistory limit X → IsNotBefore c.lexeme.start (reach X)) (sym e) (start_to_reach limit A c B) h

-- the candidate that i completes is current, and live at the reach of H
pub completed_waits : (limit : ℕ) (H : List Laid) (i : Laid) (n : ℕ) → IsHistory limit (i ∷ H) → i.completed ≡ Some n
    → (c : Laid) × (A : List Laid) × (B : List Laid) × (H ≡ A ++ c ∷ B) × (c.number ≡ n) × (is_live_candidate limit H c ≡ true)
unfolding is_current
completed_waits limit H i n h e =
    let r = completed_is limit H i n h.0 e in
    let s = candidate_split H (depth H) r.candidate r.is.candidate in
    let d : r.candidate.depth ≡ depth H = s.saved.depth in
    let q : candidate H r.candidate.depth ≡ Some r.candidate = ap (λ (k : ℕ). candidate H k) d ∙ r.is.candidate in
    let o = start_in limit H s.newer r.candidate s.older s.is h.2 in
    let l : live limit r.candidate (reach H) ≡ true = live_earlier limit r.candidate (reach H) i.lexeme.start o (to_start h.1) r.is.live in
    let u : names r.candidate.number (option_map (λ c. c.number) (candidate H r.candidate.depth)) ≡ true = rw q (eq-eqb _ _ refl) in
    (r.candidate, s.newer, s.older, s.is, r.number, and_from _ _ u l)

-- the last of a list that passes a test
pub record IsEarliest (p : Laid → Bool) (H : List Laid) (w : Laid) : Type 0 where
  pub newer : List Laid
  pub older : List Laid
  pub is : H ≡ newer ++ w ∷ older
  pub passes : p w ≡ true
  pub none_older : filter p older ≡ []

pub last_of_none : (H : List Laid) → last_of H ≡ None → H ≡ []
last_of_none [] e = refl
last_of_none (i ∷ H) e = cc

earliest_more : (p : Laid → Bool) (i : Laid) (H : List Laid) (w : Laid) → IsEarliest p H w → IsEarliest p (i ∷ H) w
earliest_more p i H w r = record { newer = i ∷ r.newer; older = r.older; is = ap (λ (X : List Laid). i ∷ X) r.is; passes = r.passes; none_older = r.none_older }

pub earliest : (p : Laid → Bool) (H : List Laid) (w : Laid) → last_of (filter p H) ≡ Some w → IsEarliest p H w
earliest p [] w e = none_is_not None w refl e
earliest p (i ∷ H) w e = elim (cases_Bool (p i)) [
  | inr f ↦ earliest_more p i H w (earliest p H w (rw f at e))
  | inl t ↦ go (last_of (filter p H)) refl (earliest p H) t (rw t at e)
]
  where
    go : (o : Option Laid) → last_of (filter p H) ≡ o → ((v : Laid) → last_of (filter p H) ≡ Some v → IsEarliest p H v)
        → p i ≡ true → Some (or_else (last_of (filter p H)) i) ≡ Some w → IsEarliest p (i ∷ H) w
    go None q ih t f = (let g : Some i ≡ Some w = rw q at f in let x : w ≡ i = some_is i w g in
        record { newer = []; older = H; is = ap (λ (v : Laid). v ∷ H) (sym x); passes = rw x t; none_older = last_of_none _ q })
    go (Some l) q ih t f = (let g : Some l ≡ Some w = rw q at f in earliest_more p i H w (ih w (q ∙ g)))

pub passes_in : (p : Laid → Bool) (A : List Laid) (c : Laid) (B : List Laid) → filter p (A ++ c ∷ B) ≡ [] → p c ≡ true → ⊥
passes_in p [] c B e t = let f : c ∷ filter p B ≡ [] = rw t at e in cc
passes_in p (i ∷ A) c B e t = elim (cases_Bool (p i)) [
  | inl g ↦ (let f : i ∷ filter p (A ++ c ∷ B) ≡ [] = rw g at e in cc)
  | inr g ↦ passes_in p A c B (rw g at e) t
]

pub tails : (i j : Laid) (H G : List Laid) → i ∷ H ≡ j ∷ G → H ≡ G
tails i j H G e = cc

-- none that passes is before the earliest
pub earliest_first : (p : Laid → Bool) (N : List Laid) (w : Laid) (O A : List Laid) (c : Laid) (B : List Laid)
    → N ++ w ∷ O ≡ A ++ c ∷ B → filter p O ≡ [] → p c ≡ true → length O ≤ length B
earliest_first p [] w O [] c B e n t = let f : O ≡ B = tails _ _ _ _ e in let g = ap (λ (X : List Laid). length X) f in omega arith
earliest_first p [] w O (a ∷ A) c B e n t =
    let f : O ≡ A ++ c ∷ B = tails _ _ _ _ e in absurd (passes_in p A c B (sym (ap (λ (X : List Laid). filter p X) f) ∙ n) t)
earliest_first p (m ∷ N) w O [] c B e n t =
    let f : N ++ w ∷ O ≡ B = tails _ _ _ _ e in let g = ap (λ (X : List Laid). length X) f in let l = length-append N (w ∷ O) in omega arith
earliest_first p (m ∷ N) w O (a ∷ A) c B e n t = earliest_first p N w O A c B (tails _ _ _ _ e) n t

-- the lexemes below a number
pub below_all : (limit : ℕ) (B : List Laid) (m : ℕ) → IsHistory limit B → length B ≤ m → filter (λ j. ltb j.number m) B ≡ B
below_all limit [] m h l = refl
below_all limit (c ∷ B) m h l =
    let n = number_at limit [] c B h in
    let t : ltb c.number m ≡ true = lt-ltb _ _ (omega arith) in
    rw (t, below_all limit B m h.2 (omega arith)) refl

pub below_number : (limit : ℕ) (N : List Laid) (w : Laid) (O : List Laid) → IsHistory limit (N ++ w ∷ O) → filter (λ j. ltb j.number w.number) (N ++ w ∷ O) ≡ O
below_number limit [] w O h =
    let n = number_at limit [] w O h in
    let t : ltb w.number w.number ≡ false = le-ltb _ _ (omega arith) in
    rw t (below_all limit O w.number h.2 (omega arith))
below_number limit (i ∷ N) w O h =
    let n = number_at limit [] i (N ++ w ∷ O) h in
    let k = number_at limit N w O h.2 in
    let l = length-append N (w ∷ O) in
    let t : ltb i.number w.number ≡ false = le-ltb _ _ (omega arith) in
    rw t (below_number limit N w O h.2)

pub up_to-split : (limit : ℕ) (H N : List Laid) (w : Laid) (O : List Laid) → H ≡ N ++ w ∷ O → IsHistory limit H → up_to H (Some w) ≡ groups H O ++ block_ends w
unfolding up_to
up_to-split limit H N w O e h =
    let f : filter (λ j. ltb j.number w.number) H ≡ O = subst (λ (X : List Laid). IsHistory limit X → filter (λ j. ltb j.number w.number) X ≡ O) (sym e) (below_number limit N w O) h in
    rw f refl

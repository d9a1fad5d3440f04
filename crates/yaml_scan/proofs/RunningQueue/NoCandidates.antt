-- Where no token is queued, there is no candidate.
use Rattle.std.proofs.Common.{◌≡◌, ℕ, zero, suc, false, ◌+◌, ◌-◌, ◌≤◌, ◌<◌, List, [], ◌∷◌, ◌++◌, map, take, length, length-append, Option, Some, None, refl, ap, sym, ◌∙◌, arith, inl, inr, subst, eqb-true}
use Rattle.std.specs.Prelude.{◌⊎◌, slice_get}
use Rattle.yaml_text.specs.declared.types.yaml_mark_t.{yaml_mark_t}
use Rattle.yaml_scan.specs.inside.Scanner.{Scanner}
use Rattle.yaml_scan.specs.Depth.{depth}
use Rattle.yaml_scan.specs.Groups.{Token, offline}
use Rattle.yaml_scan.specs.Groups.Token.{OfLexeme}
use Rattle.yaml_scan.specs.Keys.{candidate}
use Rattle.yaml_scan.specs.Kind.{Kind, is_flow_start, is_flow_end}
use Rattle.yaml_scan.specs.Laid.{Laid}
use Rattle.yaml_scan.specs.Order.{IsHistory}
use Rattle.yaml_scan.specs.Settled.{up_to}
use Rattle.yaml_scan.specs.inside.Scanning.{Holds}
use Rattle.yaml_scan.specs.inside.Slots.{Held, held_step, still_held, lost_held, root_of, empty_slots, lowest, outer_to, or_top, nested_outer, nested_top}
use Rattle.yaml_scan.proofs.RunningQueue.CandidateGroup.{none_left, offline_split}
use Rattle.yaml_scan.proofs.RunningQueue.QueueTokens.{not_settled}
use Rattle.yaml_scan.proofs.RunningQueue.SlotOrder.{IsLowest, IsNone, held_is, lowest_is}
use Rattle.std.proofs.lemmas.Bool.{cases_Bool}

up_to_short : (limit : ℕ) (H : List Laid) (k : ℕ) (c : Laid) → IsHistory limit H → candidate H k ≡ Some c → length (up_to H (Some c)) < length (offline H)
up_to_short limit H k c h s =
    let o = offline_split limit H k c h s in
    let l = ap (λ (x : List Token). length x) o.1 in
    let n = length-append (up_to H (Some c)) (OfLexeme c.lexeme ∷ o.0) in
    omega arith

-- the token of a candidate would be queued
none_to : (H : List Laid) (n : ℕ) (s : Scanner) → Holds H n s → s.layout.queue.groups.items ≡ [] → (k : ℕ) → lowest (outer_to s.limit H k) ≡ None
none_to H n s h e k = go (lowest_is s.limit H k)
  where
    all_taken : length (offline H) ≤ s.taken
    all_taken =
        let l = none_left H s.taken s.text.encoding s.layout.queue.early s.layout.queue.early_mark s.layout.queue.groups.items h.queue.tokens in
        let z : length (offline H) - s.taken ≡ 0 = eqb-true _ _ (sym l ∙ (rw e refl)) in
        omega arith

    go : IsLowest s.limit H k ⊎ IsNone s.limit H k → lowest (outer_to s.limit H k) ≡ None
    go (inr r) = r.told
    go (inl r) =
        let c = held_is s.limit H r.at r.here r.is in
        let a = not_settled s.limit H r.at c.laid h.is_history c.is c.still in
        let b = up_to_short s.limit H r.at c.laid h.is_history c.is in
        let t = h.taken in
        let l = all_taken in
        absurd (omega arith)

pub none_held : (H : List Laid) (n : ℕ) (s : Scanner) → Holds H n s → s.layout.queue.groups.items ≡ [] → lowest s.slots.outer.items ≡ None
none_held H n s h e = rw h.keys.outer (none_to H n s h e (depth H))

-- nor is there one of the present depth
pub none_at_all : (H : List Laid) (n : ℕ) (s : Scanner) → Holds H n s → s.layout.queue.groups.items ≡ [] → lowest (s.slots.outer.items ++ s.slots.top ∷ []) ≡ None
none_at_all H n s h e = rw (h.keys.outer, h.keys.top) (none_to H n s h e (suc (depth H)))

-- SLOTS WITHOUT CANDIDATES
pub all_empty : (hs : List (Option Held)) → lowest hs ≡ None → length hs ≡ empty_slots hs
all_empty [] e = refl
all_empty (None ∷ hs) e = ap suc (all_empty hs e)
all_empty (Some h ∷ hs) e = cc

pub none_given_up : (limit : ℕ) (m : yaml_mark_t) (hs : List (Option Held)) → lowest hs ≡ None → map (still_held limit m) hs ≡ hs
none_given_up limit m [] e = refl
none_given_up limit m (None ∷ hs) e = ap (λ (l : List (Option Held)). None ∷ l) (none_given_up limit m hs e)
none_given_up limit m (Some h ∷ hs) e = cc

-- the candidate of depth 0 is that of the present depth, or none
pub none_lost : (limit : ℕ) (m : yaml_mark_t) (hs : List (Option Held)) (top : Option Held) → lowest hs ≡ None → lost_held limit m top ≡ None → lost_held limit m (root_of hs top) ≡ None
none_lost limit m [] top e l = l
none_lost limit m (None ∷ hs) top e l = refl
none_lost limit m (Some h ∷ hs) top e l = cc

take_none : (n : ℕ) (hs : List (Option Held)) → lowest hs ≡ None → lowest (take n hs) ≡ None
take_none zero hs e = refl
take_none (suc n) [] e = refl
take_none (suc n) (None ∷ hs) e = take_none n hs e
take_none (suc n) (Some h ∷ hs) e = cc

top_none : (n : ℕ) (hs : List (Option Held)) → lowest hs ≡ None → or_top None (slice_get hs n) ≡ None
top_none n [] e = refl
top_none zero (None ∷ hs) e = refl
top_none (suc n) (None ∷ hs) e = top_none n hs e
top_none n (Some h ∷ hs) e = cc

-- nor is there one in the next depth, which is not entered by a flow start
pub nested_none : (k : Kind) (hs : List (Option Held)) → is_flow_start k ≡ false → lowest hs ≡ None → (lowest (nested_outer k hs None) ≡ None) × (nested_top k hs None ≡ None)
nested_none k hs s e = elim (cases_Bool (is_flow_end k)) [
  | inl q ↦ rw (s, q) (take_none (length hs - 1) hs e, top_none (length hs - 1) hs e)
  | inr q ↦ rw (s, q) (e, refl)
]

-- nor is there one where none is awaited, since the step of a candidate is not 0
pub none_there : (limit : ℕ) (H : List Laid) (k : ℕ) → held_step (lowest (outer_to limit H k)) ≡ 0 → lowest (outer_to limit H k) ≡ None
none_there limit H k e = go (lowest_is limit H k)
  where
    go : IsLowest limit H k ⊎ IsNone limit H k → lowest (outer_to limit H k) ≡ None
    go (inr r) = r.told
    go (inl r) =
        let c = held_is limit H r.at r.here r.is in
        let z : held_step (Some r.here) ≡ 0 = subst (λ (o : Option Held). held_step o ≡ 0) r.told e in
        let s : r.here.step ≡ c.laid.number + 2 = ap (λ (h : Held). h.step) c.told in
        absurd (omega arith)

pub none_where_none_awaited : (H : List Laid) (n : ℕ) (s : Scanner) → Holds H n s → s.slots.awaited ≡ 0 → lowest (s.slots.outer.items ++ s.slots.top ∷ []) ≡ None
none_where_none_awaited H n s h e =
    let z : held_step (lowest (s.slots.outer.items ++ s.slots.top ∷ [])) ≡ 0 = sym h.keys.awaited ∙ e in
    rw (h.keys.outer, h.keys.top) (none_there s.limit H (suc (depth H)) (rw (h.keys.outer, h.keys.top) at z))

-- The head of the queue is the next token exactly if no candidate that is held is the head.
use Rattle.std.proofs.Common.{◌≡◌, ℕ, ◌+◌, ◌-◌, ◌≤◌, ◌<◌, not, ◌&&◌, Bool, true, false, List, length, Some, None, refl, ap, sym, ◌∙◌, arith, inl, inr, ltb, eqb, lt-ltb, le-ltb, eq-eqb, ne_eqb}
use Rattle.std.specs.Prelude.{◌⊎◌}
use Rattle.std.proofs.lemmas.Bool.{cases_eq, cases_lt}
use Rattle.yaml_scan.specs.declared.groups.group_t.{group_t}
use Rattle.yaml_scan.specs.inside.Slots.{Held, held, held_of, outer_to, held_step, lowest}
use Rattle.yaml_scan.specs.inside.Queue.{begins_with_end, pending}
use Rattle.yaml_scan.specs.inside.Scanner.{Scanner}
use Rattle.yaml_scan.specs.inside.Scanning.{HoldsWith}
use Rattle.yaml_scan.specs.Settled.{up_to, before}
use Rattle.yaml_scan.specs.Groups.{offline}
use Rattle.yaml_scan.specs.Laid.{Laid, reach}
use Rattle.yaml_scan.specs.Keys.{candidate, live}
use Rattle.yaml_scan.specs.Depth.{depth}
use Rattle.yaml_scan.specs.Order.{IsHistory}
use Rattle.yaml_scan.proofs.TokenList.QueueBound.{length-begins}
use Rattle.yaml_scan.proofs.TokenList.SettledStays.{before-offline}
use Rattle.yaml_scan.proofs.TokenList.AllSettled.{candidate_above}
use Rattle.yaml_scan.proofs.RunningQueue.QueueTokens.{settled, not_settled}
use Rattle.yaml_scan.proofs.RunningQueue.CandidateGroup.{head_awaited, none_left}
use Rattle.yaml_scan.proofs.RunningQueue.SlotOrder.{IsHeld, IsLowest, IsNone, awaited_is, held_is, lowest_is, token_order}

module _ (limit : ℕ) (H : List Laid) (h : IsHistory limit H) (t : ℕ) (l : t ≤ length (before limit H)) where
  -- all that was made is settled, where no candidate stands at the head
  open_head : t < length (offline H) → ((k : ℕ) (c : Laid) → candidate H k ≡ Some c → live limit c (reach H) ≡ true → k ≤ depth H → t ≡ length (up_to H (Some c)) → ⊥) → t < length (before limit H)
  open_head m n = settled limit H t h l m (λ k c s v. λ e. go k c s v e (cases_lt (depth H) k))
    where
      go : (k : ℕ) (c : Laid) → candidate H k ≡ Some c → live limit c (reach H) ≡ true → t ≡ length (up_to H (Some c)) → (depth H < k) ⊎ (k ≤ depth H) → ⊥
      go k c s v e (inl o) = (let q : Some c ≡ None = sym s ∙ candidate_above limit H k h o in cc)
      go k c s v e (inr o) = n k c s v o e

  not_held : (k : ℕ) (c : Laid) → candidate H k ≡ Some c → live limit c (reach H) ≡ true → held limit H k ≡ None → ⊥
  not_held k c s v e = let q : Some (held_of c) ≡ None = rw (s, v) at e in absurd (cc)

  pub none_open : IsNone limit H (depth H + 1) → t < length (offline H) → t < length (before limit H)
  none_open r m = open_head m (λ k c s v o e. not_held k c s v (r.below k (omega arith)))

  module _ (r : IsLowest limit H (depth H + 1)) where
    pub here : IsHeld limit H r.at r.here
    here = held_is limit H r.at r.here r.is

    pub lowest_open : (t ≡ length (up_to H (Some here.laid)) → ⊥) → t < length (offline H) → t < length (before limit H)
    lowest_open n m = open_head m (λ k c s v o e. elim (cases_lt k r.at) [
      | inl a ↦ not_held k c s v (r.below k a)
      | inr a ↦ elim (cases_eq k r.at) [
        | inl z ↦ (let q : Some c ≡ Some here.laid = sym s ∙ ap (λ (j : ℕ). candidate H j) z ∙ here.is in n (e ∙ ap (λ (y : Laid). length (up_to H (Some y))) (same_one c here.laid q)))
        | inr z ↦ (let a = token_order limit H r.at k here.laid c h (omega arith) o here.is s in let b = not_settled limit H r.at here.laid h here.is here.still in n (omega arith))
      ]
    ])
      where
        same_one : (a b : Laid) → Some a ≡ Some b → a ≡ b
        same_one a b q = cc

    lowest_late : t ≡ length (up_to H (Some here.laid)) → length (before limit H) ≤ t
    lowest_late e = let b = not_settled limit H r.at here.laid h here.is here.still in omega arith

  -- where a candidate that is held is told to be at the head if it is
  settled_test : (d : ℕ) (ends : Bool) → ((k : ℕ) (c : Laid) → candidate H k ≡ Some c → t ≤ length (up_to H (Some c)) → (eqb (c.number + 2) (d + 1) && not ends) ≡ eqb t (length (up_to H (Some c))))
      → (e : Bool) → e ≡ eqb (length (offline H) - t) 0 → (w : ℕ) → w ≡ held_step (lowest (outer_to limit H (depth H + 1)))
      → (not e && not (eqb w (d + 1) && not ends)) ≡ ltb t (length (before limit H))
  settled_test d ends W e E w Q = elim (cases_eq (length (offline H) - t) 0) [
    | inl z ↦ (let f : e ≡ true = E ∙ (rw z refl) in let s = shorter in rw f (sym (le-ltb t (length (before limit H)) (omega arith))))
    | inr z ↦ (let f : e ≡ false = E ∙ ne_eqb _ _ z in rw f (go (omega arith) (lowest_is limit H (depth H + 1))))
  ]
    where
      shorter : length (before limit H) ≤ length (offline H)
      shorter = length-begins _ _ (before-offline limit H h)

      zero_not : eqb 0 (d + 1) ≡ false
      zero_not = ne_eqb _ _ (λ q. absurd (omega arith))

      go : t < length (offline H) → IsLowest limit H (depth H + 1) ⊎ IsNone limit H (depth H + 1) → not (eqb w (d + 1) && not ends) ≡ ltb t (length (before limit H))
      go m (inr r) = let v : w ≡ 0 = Q ∙ ap held_step r.told in rw (v, zero_not) (sym (lt-ltb _ _ (none_open r m)))
      go m (inl r) =
          let g = here r in
          let v : w ≡ g.laid.number + 2 = Q ∙ ap held_step r.told ∙ ap (λ (z : Held). z.step) g.told in
          let n = not_settled limit H r.at g.laid h g.is g.still in
          let u : (eqb w (d + 1) && not ends) ≡ eqb t (length (up_to H (Some g.laid))) = rw v (W r.at g.laid g.is (omega arith)) in
          rw u (elim (cases_eq t (length (up_to H (Some g.laid)))) [
            | inl z ↦ rw (eq-eqb _ _ z) (sym (le-ltb _ _ (lowest_late r z)))
            | inr z ↦ rw (ne_eqb _ _ z) (sym (lt-ltb _ _ (lowest_open r z m)))
          ])

-- a scanner tests whether its queue has a group, for which no candidate is awaited
pub head_tested : (H : List Laid) (n : ℕ) (s : Scanner) (ys : List group_t) → HoldsWith H n s ys → (none : Bool) → none ≡ eqb (length ys) 0
    → (not none && not (eqb s.slots.awaited (s.layout.queue.done + 1) && not (begins_with_end (pending s.layout.queue.early s.layout.queue.early_mark ys)))) ≡ ltb s.taken (length (before s.limit H))
head_tested H n s ys h none e = let q = s.layout.queue in
    settled_test s.limit H h.is_history s.taken h.taken q.done (begins_with_end (pending q.early q.early_mark ys))
    (λ k x e l. head_awaited s.limit H k x s.taken s.text.encoding q.early q.early_mark ys q.done h.is_history h.queue.tokens h.queue.count e l)
    none (e ∙ none_left H s.taken s.text.encoding q.early q.early_mark ys h.queue.tokens) s.slots.awaited (awaited_is s.limit H s.slots s.allowed h.keys)

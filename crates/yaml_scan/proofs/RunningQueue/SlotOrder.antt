-- Candidates of greater depths start later, and their tokens are further on.
use Rattle.std.proofs.Common.{◌≡◌, ℕ, zero, suc, ◌+◌, ◌≤◌, ◌<◌, Bool, true, List, [], ◌∷◌, ◌++◌, length, Option, Some, None, refl, ap, sym, ◌∙◌, subst, arith, inl, inr, eqb-true}
use Rattle.std.specs.Prelude.{◌⊎◌, slice_get, option_map}
use Rattle.std.proofs.lemmas.Bool.{cases_Bool, cases_eq, and_parts}
use Rattle.std.proofs.lemmas.Option.{slice_get_within}
use Rattle.yaml_text.specs.declared.types.yaml_mark_t.{yaml_mark_t}
use Rattle.yaml_scan.specs.Laid.{Laid, reach}
use Rattle.yaml_scan.specs.Keys.{candidate, live, only_live}
use Rattle.yaml_scan.specs.Depth.{depth}
use Rattle.yaml_scan.specs.declared.slots.slots_t.{slots_t}
use Rattle.yaml_scan.specs.inside.Holding.{HoldsKeys}
use Rattle.yaml_scan.specs.inside.Slots.{Held, held, held_of, outer_to, lowest, held_step, AreNested}
use Rattle.yaml_scan.specs.Settled.{up_to}
use Rattle.yaml_scan.specs.Order.{IsHistory, IsNotBefore}
use Rattle.yaml_scan.proofs.History.KeyCandidates.{candidate_split}
use Rattle.yaml_scan.proofs.History.HistoryOrder.{IsHistory-older, IsNotBefore-trans, to_start}
use Rattle.yaml_scan.proofs.TokenList.NeverRevised.{number_in, start_in}
use Rattle.yaml_scan.proofs.TokenList.SettledStays.{Order, order}
use Rattle.yaml_scan.proofs.TokenList.SettledStays.Order.{same, later}
use Rattle.yaml_scan.proofs.TokenList.AllSettled.{candidate_order}
use Rattle.yaml_scan.proofs.RunningQueue.QueueTokens.{up_to-mono}
use Rattle.yaml_scan.proofs.RunningStep.SlotTests.{outer_length}
use Rattle.yaml_scan.proofs.RunningQueue.EmptySlots.{get-append, lowest-first, lowest-next}

-- the candidate in a slot
pub record IsHeld (limit : ℕ) (H : List Laid) (k : ℕ) (h : Held) : Type 0 where
  pub laid : Laid
  pub is : candidate H k ≡ Some laid
  pub still : live limit laid (reach H) ≡ true
  pub told : h ≡ held_of laid

pub held_is : (limit : ℕ) (H : List Laid) (k : ℕ) (h : Held) → held limit H k ≡ Some h → IsHeld limit H k h
held_is limit H k h e = go (candidate H k) refl e
  where
    same_held : (a b : Held) → Some a ≡ Some b → b ≡ a
    same_held a b q = cc

    none_held : {X : Type 0} → None ≡ Some h → X
    none_held q = cc

    go : (o : Option Laid) → candidate H k ≡ o → option_map held_of (only_live limit (reach H) o) ≡ Some h → IsHeld limit H k h
    go None s f = none_held f
    go (Some c) s f = elim (cases_Bool (live limit c (reach H))) [
      | inl v ↦ (let g : Some (held_of c) ≡ Some h = rw v at f in record { laid = c; is = s; still = v; told = same_held _ _ g })
      | inr v ↦ none_held (rw v at f)
    ]

-- a lexeme that is before another one starts no later
start_order : (limit : ℕ) (H : List Laid) (k n : ℕ) (c d : Laid) → IsHistory limit H → candidate H k ≡ Some c → candidate H n ≡ Some d → c.number < d.number → IsNotBefore c.lexeme.start d.lexeme.start
start_order limit H k n c d h s t l =
    let a = candidate_split H k c s in
    let b = candidate_split H n d t in
    let u = number_in limit H a.newer c a.older a.is h in
    let v = number_in limit H b.newer d b.older b.is h in
    let g : IsHistory limit (d ∷ b.older) = IsHistory-older limit b.newer (d ∷ b.older) (subst (λ (X : List Laid). IsHistory limit X) b.is h) in
    go a.older b.older u v g (order a.newer c a.older b.newer d b.older (sym a.is ∙ b.is) (omega arith))
  where
    go : (O U : List Laid) → c.number ≡ length O → d.number ≡ length U → IsHistory limit (d ∷ U) → Order c O d U → IsNotBefore c.lexeme.start d.lexeme.start
    go O U u v g (same e f) = let q = ap (λ (X : List Laid). length X) f in absurd (omega arith)
    go O U u v g (later M f) = IsNotBefore-trans _ _ _ (start_in limit U M c O f g.2) (to_start g.1)

-- the token of a candidate of a greater depth stands further on
pub token_order : (limit : ℕ) (H : List Laid) (k n : ℕ) (c d : Laid) → IsHistory limit H → k < n → n ≤ depth H → candidate H k ≡ Some c → candidate H n ≡ Some d → length (up_to H (Some c)) ≤ length (up_to H (Some d))
token_order limit H k n c d h l m s t =
    let a = candidate_split H k c s in
    let b = candidate_split H n d t in
    let z = candidate_order limit H k n c d h s t l m in
    up_to-mono limit H a.newer c a.older b.newer d b.older h a.is b.is (omega arith)

module _ (limit : ℕ) (H : List Laid) (h : IsHistory limit H) where
  -- a candidate of a greater depth
  module _ (k n : ℕ) (x y : Held) (l : k < n) (m : n ≤ depth H) (e : held limit H k ≡ Some x) (f : held limit H n ≡ Some y) where
    c : IsHeld limit H k x
    c = held_is limit H k x e

    d : IsHeld limit H n y
    d = held_is limit H n y f

    further : c.laid.number < d.laid.number
    further = candidate_order limit H k n c.laid d.laid h c.is d.is l m

    pub start_after : (y.start.line ≡ x.start.line) × (x.start.index ≤ y.start.index)
    start_after =
        let p = and_parts _ _ c.still in
        let q = and_parts _ _ d.still in
        let u : (reach H).line ≡ c.laid.lexeme.start.line = eqb-true _ _ p.0 in
        let v : (reach H).line ≡ d.laid.lexeme.start.line = eqb-true _ _ q.0 in
        let w = start_order limit H k n c.laid d.laid h c.is d.is further in
        let s = ap (λ (z : Held). z.start) c.told in
        let t = ap (λ (z : Held). z.start) d.told in
        let i : x.start.index ≡ c.laid.lexeme.start.index = ap (λ (z : yaml_mark_t). z.index) s in
        let j : y.start.index ≡ d.laid.lexeme.start.index = ap (λ (z : yaml_mark_t). z.index) t in
        let o = w.index in
        (ap (λ (z : yaml_mark_t). z.line) t ∙ sym v ∙ u ∙ sym (ap (λ (z : yaml_mark_t). z.line) s), omega arith)

outer_at : (limit : ℕ) (H : List Laid) (n k : ℕ) → k < n → slice_get (outer_to limit H n) k ≡ Some (held limit H k)
outer_at limit H zero k l = absurd (omega arith)
outer_at limit H (suc n) k l = elim (cases_eq k n) [
  | inl q ↦ rw q (at_end (outer_to limit H n) (held limit H n) n (outer_length limit H n))
  | inr q ↦ get-append (outer_to limit H n) (held limit H n ∷ []) k (let z = outer_length limit H n in omega arith) ∙ outer_at limit H n k (omega arith)
]
  where
    at_end : (xs : List (Option Held)) (x : Option Held) (n : ℕ) → length xs ≡ n → slice_get (xs ++ x ∷ []) n ≡ Some x
    at_end [] x zero e = refl
    at_end [] x (suc n) e = absurd (omega arith)
    at_end (y ∷ xs) x zero e = absurd (omega arith)
    at_end (y ∷ xs) x (suc n) e = at_end xs x n (omega arith)

pub outer_nested : (limit : ℕ) (H : List Laid) → IsHistory limit H → AreNested (outer_to limit H (depth H))
outer_nested limit H h k n x y l e f =
    let z = outer_length limit H (depth H) in
    let w : n < depth H = (let a = slice_get_within (outer_to limit H (depth H)) n (Some y) f in omega arith) in
    start_after limit H h k n x y l (omega arith) (same_slot _ _ (sym (outer_at limit H (depth H) k (omega arith)) ∙ e)) (same_slot _ _ (sym (outer_at limit H (depth H) n w) ∙ f))
  where
    same_slot : (a b : Option Held) → Some a ≡ Some b → a ≡ b
    same_slot a b q = cc

-- the step of the candidate of the least depth
pub awaited_is : (limit : ℕ) (H : List Laid) (slots : slots_t) (may : Bool) → HoldsKeys limit H slots may → slots.awaited ≡ held_step (lowest (outer_to limit H (depth H + 1)))
awaited_is limit H slots may k = let n : depth H + 1 ≡ suc (depth H) = omega arith in k.awaited ∙ (rw (k.outer, k.top, n) refl)

-- the lowest candidate of those below depth n
pub record IsLowest (limit : ℕ) (H : List Laid) (n : ℕ) : Type 0 where
  pub at : ℕ
  pub here : Held
  pub within : at < n
  pub told : lowest (outer_to limit H n) ≡ Some here
  pub is : held limit H at ≡ Some here
  pub below : (k : ℕ) → k < at → held limit H k ≡ None

pub record IsNone (limit : ℕ) (H : List Laid) (n : ℕ) : Type 0 where
  pub told : lowest (outer_to limit H n) ≡ None
  pub below : (k : ℕ) → k < n → held limit H k ≡ None

pub lowest_is : (limit : ℕ) (H : List Laid) (n : ℕ) → IsLowest limit H n ⊎ IsNone limit H n
lowest_is limit H zero = inr record { told = refl; below = λ k l. absurd (omega arith) }
lowest_is limit H (suc n) = go (lowest_is limit H n) (held limit H n) refl
  where
    go : IsLowest limit H n ⊎ IsNone limit H n → (o : Option Held) → held limit H n ≡ o → IsLowest limit H (suc n) ⊎ IsNone limit H (suc n)
    go (inl r) o e = inl record { at = r.at; here = r.here; within = (let w = r.within in omega arith); told = lowest-first (outer_to limit H n) (held limit H n ∷ []) r.here r.told; is = r.is; below = r.below }
    go (inr r) None e = inr record {
      told = lowest-next (outer_to limit H n) (held limit H n) r.told ∙ e;
      below = λ k l. elim (cases_eq k n) [ inl q ↦ rw q e | inr q ↦ r.below k (omega arith) ];
    }
    go (inr r) (Some x) e = inl record { at = n; here = x; within = omega arith; told = lowest-next (outer_to limit H n) (held limit H n) r.told ∙ e; is = e; below = r.below }

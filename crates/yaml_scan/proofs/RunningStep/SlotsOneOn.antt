-- What the slot of each depth holds after one lexeme more.
use Rattle.std.proofs.Common.{◌≡◌, ℕ, ◌≤◌, Bool, true, false, List, ◌∷◌, Option, Some, None, refl, ap, sym, ◌∙◌, arith, eqb, inl, inr}
use Rattle.std.specs.Prelude.{if◌then◌else◌, option_map}
use Rattle.std.proofs.lemmas.Bool.{cases_Bool, cases_eq}
use Rattle.yaml_scan.specs.Laid.{Laid, reach}
use Rattle.yaml_scan.specs.Keys.{candidate, live, only_live, is_candidate, enters}
use Rattle.yaml_scan.specs.Depth.{depth}
use Rattle.yaml_scan.specs.Order.{IsHistory}
use Rattle.yaml_scan.specs.inside.Slots.{held, held_of, still_held}
use Rattle.yaml_scan.proofs.History.KeyCandidates.{candidate-entered, candidate-other, candidate-saved, candidate-kept, candidate-cleared, candidate_split}
use Rattle.yaml_scan.proofs.History.HistoryOrder.{to_start, to_reach, completed_is, live_earlier, IsNotBefore-trans}
use Rattle.yaml_scan.proofs.TokenList.NeverRevised.{start_in}
use Rattle.yaml_scan.proofs.TokenList.AllSettled.{candidate_order}

-- what is completed is not before the candidate of a depth entered
pub completed_from : (limit : ℕ) (i : Laid) (H : List Laid) (k : ℕ) (c : Laid) → IsHistory limit (i ∷ H) → candidate H k ≡ Some c → k ≤ depth H → (n : ℕ) → i.completed ≡ Some n → c.number ≤ n
completed_from limit i H k c h s l n e =
    let r = completed_is limit H i n h.0 e in
    elim (cases_eq k (depth H)) [
      | inl q ↦ (let f : candidate H k ≡ Some r.candidate = rw q r.is.candidate in let g : c ≡ r.candidate = some_one c r.candidate (sym s ∙ f) in let m = ap (λ (x : Laid). x.number) g in omega (arith, r.number))
      | inr q ↦ (let m = candidate_order limit H k (depth H) c r.candidate h.2 s r.is.candidate (omega arith) (omega arith) in omega (arith, r.number))
    ]
  where
    some_one : (a b : Laid) → Some a ≡ Some b → a ≡ b
    some_one a b q = cc

-- a candidate that is left alone is only tested
pub held-left : (limit : ℕ) (i : Laid) (H : List Laid) (k : ℕ) → IsHistory limit (i ∷ H) → k ≤ depth H → candidate (i ∷ H) k ≡ candidate H k → held limit (i ∷ H) k ≡ still_held limit i.lexeme.reach (held limit H k)
held-left limit i H k h l e = rw e (go (candidate H k) refl)
  where
    go : (o : Option Laid) → candidate H k ≡ o → option_map held_of (only_live limit (reach (i ∷ H)) o) ≡ still_held limit i.lexeme.reach (option_map held_of (only_live limit (reach H) o))
    go None s = refl
    go (Some c) s = elim (cases_Bool (live limit c i.lexeme.reach)) [
      | inl t ↦ (let a = candidate_split H k c s in
          let o = start_in limit H a.newer c a.older a.is h.2 in
          let u : live limit c (reach H) ≡ true = live_earlier limit c (reach H) i.lexeme.reach o (IsNotBefore-trans _ _ _ (to_start h.1) (to_reach h.1)) t in
          rw (t, u) (rw t refl))
      | inr t ↦ elim (cases_Bool (live limit c (reach H))) [
        | inl u ↦ rw (t, u) (rw t refl)
        | inr u ↦ rw (t, u) refl
      ]
    ]

-- the five ways
pub held-entered : (limit : ℕ) (i : Laid) (H : List Laid) (k : ℕ) → enters k i ≡ true → held limit (i ∷ H) k ≡ None
held-entered limit i H k e = rw (candidate-entered i H k e) refl

pub held-cleared : (limit : ℕ) (i : Laid) (H : List Laid) (k : ℕ) → enters k i ≡ false → eqb i.depth k ≡ true → is_candidate i ≡ false → held limit (i ∷ H) k ≡ None
held-cleared limit i H k e d c = rw (candidate-cleared i H k e d c) refl

pub held-other : (limit : ℕ) (i : Laid) (H : List Laid) (k : ℕ) → IsHistory limit (i ∷ H) → k ≤ depth H → enters k i ≡ false → eqb i.depth k ≡ false → held limit (i ∷ H) k ≡ still_held limit i.lexeme.reach (held limit H k)
held-other limit i H k h l e d = held-left limit i H k h l (candidate-other i H k e d)

pub held-kept : (limit : ℕ) (i : Laid) (H : List Laid) (k : ℕ) → IsHistory limit (i ∷ H) → k ≤ depth H → enters k i ≡ false → eqb i.depth k ≡ true → is_candidate i ≡ true → i.key_allowed ≡ false
    → held limit (i ∷ H) k ≡ still_held limit i.lexeme.reach (held limit H k)
held-kept limit i H k h l e d c a = held-left limit i H k h l (candidate-kept i H k e d c a)

-- a candidate that is saved is the lexeme itself
pub held-saved : (limit : ℕ) (i : Laid) (H : List Laid) (k : ℕ) → enters k i ≡ false → eqb i.depth k ≡ true → is_candidate i ≡ true → i.key_allowed ≡ true → held limit (i ∷ H) k ≡ still_held limit i.lexeme.reach (Some (held_of i))
held-saved limit i H k e d c a = rw (candidate-saved i H k e d c a) (cases (live limit i i.lexeme.reach))
  where
    cases : (b : Bool) → option_map held_of (if b then Some i else None) ≡ (if b then Some (held_of i) else None)
    cases true = refl
    cases false = refl

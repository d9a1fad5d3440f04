-- The step after the first lexemes of a cut gives the next one of them, or its fault.
use Rattle.std.proofs.Common.{◌≡◌, ℕ, suc, ◌+◌, ◌-◌, ◌≤◌, ◌<◌, false, List, [], ◌∷◌, length, Option, Some, None, refl, ap, sym, ◌∙◌, subst, arith, inl, inr}
use Rattle.std.proofs.lemmas.Bool.{cases_eq, false≢true}
use Rattle.yaml_scan.specs.Course.{ended, oldest}
use Rattle.yaml_scan.specs.Laid.{Laid, Lexeme}
use Rattle.yaml_scan.specs.Levels.{laid}
use Rattle.yaml_scan.specs.Cut.{IsRun, EndsWith}
use Rattle.yaml_scan.specs.Source.{Offence}
use Rattle.yaml_scan.specs.Step.{Outcome}
use Rattle.yaml_scan.specs.Step.Outcome.{Reads, Faults}

pub oldest_all : (H : List Laid) (k : ℕ) → k ≡ length H → oldest k H ≡ H
oldest_all H k e = let z : length H - k ≡ 0 = omega arith in rw z refl

pub oldest_tail : (i : Laid) (H : List Laid) (k : ℕ) → k ≤ length H → oldest k (i ∷ H) ≡ oldest k H
oldest_tail i H k l = let z : suc (length H) - k ≡ suc (length H - k) = omega arith in rw z refl

reads_same : (x y : Lexeme) → Reads x ≡ Reads y → y ≡ x
reads_same x y e = cc

-- the step after the first k lexemes gives the next one
pub oldest-next : (step : List Laid → Outcome) (limit : ℕ) (H : List Laid) (k : ℕ) (x : Lexeme) → IsRun step limit H → k < length H → step (oldest k H) ≡ Reads x
    → oldest (k + 1) H ≡ laid limit (oldest k H) x ∷ oldest k H
oldest-next step limit [] k x r l s = absurd (omega arith)
oldest-next step limit (i ∷ H) k x r l s = elim (cases_eq k (length H)) [
  | inl e ↦ (let a : oldest k (i ∷ H) ≡ H = oldest_tail i H k (omega arith) ∙ oldest_all H k e in
      let b : oldest (k + 1) (i ∷ H) ≡ i ∷ H = oldest_all (i ∷ H) (k + 1) (omega arith) in
      let c : x ≡ i.lexeme = reads_same i.lexeme x (sym r.1 ∙ (subst (λ (X : List Laid). step X ≡ Reads x) a s)) in
      b ∙ sym (rw (a, c) (ap (λ (p : Laid). p ∷ H) (sym r.0))))
  | inr e ↦ (let a : oldest k (i ∷ H) ≡ oldest k H = oldest_tail i H k (omega arith) in
      let b : oldest (k + 1) (i ∷ H) ≡ oldest (k + 1) H = oldest_tail i H (k + 1) (omega arith) in
      let t : step (oldest k H) ≡ Reads x = subst (λ (X : List Laid). step X ≡ Reads x) a s in
      rw (b, a) (oldest-next step limit H k x r.2 (omega arith) t))
]

-- and if it gives a fault, all of the cut is read, and the fault is the cut's
pub oldest-fault : (step : List Laid → Outcome) (limit : ℕ) (H : List Laid) (k : ℕ) (f : Offence) (o : Option Offence) → IsRun step limit H → EndsWith step H o → k ≤ length H
    → ended (oldest k H) ≡ false → step (oldest k H) ≡ Faults f → (k ≡ length H) × (o ≡ Some f)
oldest-fault step limit H k f o r w l n s = elim (cases_eq k (length H)) [
  | inl e ↦ (e, at_end o w (subst (λ (X : List Laid). ended X ≡ false) (oldest_all H k e) n) (subst (λ (X : List Laid). step X ≡ Faults f) (oldest_all H k e) s))
  | inr e ↦ absurd (inside H k r (omega arith) s)
]
  where
    at_end : (o : Option Offence) → EndsWith step H o → ended H ≡ false → step H ≡ Faults f → o ≡ Some f
    at_end None w n s = absurd (false≢true (sym n ∙ w))
    at_end (Some g) w n s = let q : Faults g ≡ Faults f = sym w.1 ∙ s in ap Some (faults_same g f q)
      where
        faults_same : (a b : Offence) → Faults a ≡ Faults b → a ≡ b
        faults_same a b q = cc

    inside : (H : List Laid) (k : ℕ) → IsRun step limit H → k < length H → step (oldest k H) ≡ Faults f → ⊥
    inside [] k r l s = omega arith
    inside (i ∷ H) k r l s = elim (cases_eq k (length H)) [
      | inl e ↦ (let a : oldest k (i ∷ H) ≡ H = oldest_tail i H k (omega arith) ∙ oldest_all H k e in
          let q : Reads i.lexeme ≡ Faults f = sym r.1 ∙ subst (λ (X : List Laid). step X ≡ Faults f) a s in cc)
      | inr e ↦ inside H k r.2 (omega arith) (subst (λ (X : List Laid). step X ≡ Faults f) (oldest_tail i H k (omega arith)) s)
    ]

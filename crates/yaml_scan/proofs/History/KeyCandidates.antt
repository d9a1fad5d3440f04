-- The candidate of each depth after one lexeme more, and where in a history it is.
use Rattle.std.proofs.Common.{◌≡◌, ℕ, ◌+◌, ◌&&◌, Bool, true, false, List, [], ◌∷◌, ◌++◌, Option, Some, None, refl, ap, sym, ◌∙◌, arith, eqb, ne_eqb, eqb-true, inl, inr}
use Rattle.std.specs.Prelude.{◌⊎◌}
use Rattle.std.proofs.lemmas.Bool.{cases_Bool, eqb-false}
use Rattle.yaml_scan.specs.Kind.{is_flow_start}
use Rattle.yaml_scan.specs.Laid.{Laid}
use Rattle.yaml_scan.specs.Keys.{candidate, enters, changes_candidate, is_candidate}

-- the candidate of depth k after i
-- a flow start read at k - 1 gives depth k no candidate
pub candidate-entered : (i : Laid) (H : List Laid) (k : ℕ) → enters k i ≡ true → candidate (i ∷ H) k ≡ None
unfolding candidate
candidate-entered i H k e = rw e refl

-- what is read at another depth leaves it
pub candidate-other : (i : Laid) (H : List Laid) (k : ℕ) → enters k i ≡ false → eqb i.depth k ≡ false → candidate (i ∷ H) k ≡ candidate H k
unfolding candidate
candidate-other i H k e d = rw (e, d) refl

-- a candidate kind with a key allowed is saved
pub candidate-saved : (i : Laid) (H : List Laid) (k : ℕ) → enters k i ≡ false → eqb i.depth k ≡ true → is_candidate i ≡ true → i.key_allowed ≡ true → candidate (i ∷ H) k ≡ Some i
unfolding candidate
candidate-saved i H k e d c a = let s : changes_candidate i ≡ true = rw (c, a) refl in rw (e, d, s) (rw c refl)

-- with none allowed it leaves the old one
pub candidate-kept : (i : Laid) (H : List Laid) (k : ℕ) → enters k i ≡ false → eqb i.depth k ≡ true → is_candidate i ≡ true → i.key_allowed ≡ false → candidate (i ∷ H) k ≡ candidate H k
unfolding candidate
candidate-kept i H k e d c a = rw (e, d, c, a) refl

-- any other kind clears it
pub candidate-cleared : (i : Laid) (H : List Laid) (k : ℕ) → enters k i ≡ false → eqb i.depth k ≡ true → is_candidate i ≡ false → candidate (i ∷ H) k ≡ None
unfolding candidate
candidate-cleared i H k e d c = let s : changes_candidate i ≡ true = rw c refl in rw (e, d, s) (rw c refl)

-- a flow start enters no depth but the next
pub enters-same : (i : Laid) (k : ℕ) → eqb i.depth k ≡ true → enters k i ≡ false
enters-same i k d =
    let e : i.depth ≡ k = eqb-true _ _ d in
    let n : eqb (i.depth + 1) k ≡ false = ne_eqb _ _ (λ h. omega arith) in
    rw n (cases (is_flow_start i.lexeme.kind))
  where
    cases : (b : Bool) → (b && false) ≡ false
    cases true = refl
    cases false = refl

-- i becomes the candidate of depth k
pub record IsSaved (k : ℕ) (i : Laid) : Type 0 where
  pub depth : i.depth ≡ k
  pub candidate : is_candidate i ≡ true
  pub allowed : i.key_allowed ≡ true

-- i leaves the candidate of depth k
pub record IsKept (k : ℕ) (i : Laid) : Type 0 where
  pub not_entered : enters k i ≡ false
  pub candidate : i.depth ≡ k → is_candidate i ≡ true
  pub not_allowed : i.depth ≡ k → i.key_allowed ≡ false

abbrev pub AllKept : ℕ → List Laid → Type 0
AllKept k [] = Unit {0}
AllKept k (i ∷ A) = IsKept k i × AllKept k A

pub none_is_not : {X : Type 0} (o : Option Laid) (c : Laid) → o ≡ None → o ≡ Some c → X
none_is_not o c n s = cc

pub some_is : (i c : Laid) → Some i ≡ Some c → c ≡ i
some_is i c e = cc

-- where the candidate of depth k after i comes from
pub candidate-is : (i : Laid) (H : List Laid) (k : ℕ) (c : Laid) → candidate (i ∷ H) k ≡ Some c
    → ((c ≡ i) × IsSaved k i) ⊎ ((candidate H k ≡ Some c) × IsKept k i)
candidate-is i H k c s = elim (cases_Bool (eqb i.depth k)) [
  | inl d ↦ (let e : enters k i ≡ false = enters-same i k d in
      elim (cases_Bool (is_candidate i)) [
        | inl p ↦ elim (cases_Bool i.key_allowed) [
          | inl a ↦ inl (some_is i c (sym (candidate-saved i H k e d p a) ∙ s), record { depth = eqb-true _ _ d; candidate = p; allowed = a })
          | inr a ↦ inr (sym (candidate-kept i H k e d p a) ∙ s, record { not_entered = e; candidate = λ h. p; not_allowed = λ h. a })
        ]
        | inr p ↦ none_is_not _ _ (candidate-cleared i H k e d p) s
      ])
  | inr d ↦ elim (cases_Bool (enters k i)) [
    | inl e ↦ none_is_not _ _ (candidate-entered i H k e) s
    | inr e ↦ inr (sym (candidate-other i H k e d) ∙ s, record { not_entered = e; candidate = λ h. absurd (eqb-false _ _ d h); not_allowed = λ h. absurd (eqb-false _ _ d h) })
  ]
]

-- the candidate of depth k, with what is after it and before it
pub record IsCandidateOf (H : List Laid) (k : ℕ) (c : Laid) : Type 0 where
  pub newer : List Laid
  pub older : List Laid
  pub is : H ≡ newer ++ c ∷ older
  pub saved : IsSaved k c
  pub kept : AllKept k newer

candidate-none : (k : ℕ) → candidate [] k ≡ None
unfolding candidate
candidate-none k = refl

pub candidate_split : (H : List Laid) (k : ℕ) (c : Laid) → candidate H k ≡ Some c → IsCandidateOf H k c
candidate_split [] k c s = none_is_not _ _ (candidate-none k) s
candidate_split (i ∷ H) k c s = elim (candidate-is i H k c s) [
  | inl h ↦ record { newer = []; older = H; is = ap (λ (x : Laid). x ∷ H) (sym h.0); saved = rw h.0 h.1; kept = tt }
  | inr h ↦ (let r = candidate_split H k c h.0 in record { newer = i ∷ r.newer; older = r.older; is = ap (λ (xs : List Laid). i ∷ xs) r.is; saved = r.saved; kept = (h.1, r.kept) })
]

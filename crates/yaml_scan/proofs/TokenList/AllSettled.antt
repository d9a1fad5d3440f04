-- After the stream end nothing waits; candidates of greater depths come later.
use Rattle.std.proofs.Common.{◌≡◌, ℕ, ◌+◌, ◌≤◌, ◌<◌, Bool, true, false, List, [], ◌∷◌, ◌++◌, length, length-append, filter, Some, None, refl, ap, sym, ◌∙◌, subst, arith, eqb, eq-eqb, eqb-true, inl, inr}
use Rattle.std.specs.Prelude.{◌⊎◌}
use Rattle.std.proofs.lemmas.Bool.{cases_Bool, cases_eq, cases_order, and_parts, and_from, eqb-false, false≢true}
use Rattle.yaml_scan.specs.Course.{ended}
use Rattle.yaml_scan.specs.Kind.{is_stream_end, is_flow_start, is_flow_end}
use Rattle.yaml_text.specs.declared.types.yaml_mark_t.{yaml_mark_t}
use Rattle.yaml_scan.specs.Laid.{Laid, reach}
use Rattle.yaml_scan.specs.Keys.{candidate, live, enters, is_candidate}
use Rattle.yaml_scan.specs.Depth.{depth}
use Rattle.yaml_scan.specs.Order.{IsHistory, IsNotBefore}
use Rattle.yaml_scan.specs.Groups.{offline}
use Rattle.yaml_scan.specs.Settled.{waiting, before, is_current, last_of}
use Rattle.yaml_scan.proofs.History.DepthOneOn.{depth-start, depth-end, depth-same}
use Rattle.yaml_scan.proofs.History.KindTests.{end_not_candidate, flow_kinds, flow_end_not_candidate}
use Rattle.yaml_scan.proofs.History.KeyCandidates.{candidate-is, candidate_split, AllKept, candidate-entered, candidate-other, candidate-cleared}
use Rattle.yaml_scan.proofs.History.HistoryOrder.{to_start, to_reach, column_taken, number_at, depth_at, start_to_reach, IsNotBefore-trans}
use Rattle.yaml_scan.proofs.TokenList.NeverRevised.{is_live_candidate, number_in}
use Rattle.yaml_scan.proofs.TokenList.SettledStays.{same_laid, named_is, before_all}

none_passes : (p : Laid → Bool) (H : List Laid) → ((A : List Laid) (c : Laid) (B : List Laid) → H ≡ A ++ c ∷ B → p c ≡ true → ⊥) → filter p H ≡ []
none_passes p [] k = refl
none_passes p (i ∷ H) k = elim (cases_Bool (p i)) [
  | inl q ↦ absurd (k [] i H refl q)
  | inr q ↦ rw q (none_passes p H (λ A c B e. k (i ∷ A) c B (ap (λ (X : List Laid). i ∷ X) e)))
]

not_ended : (limit : ℕ) (N : List Laid) (c : Laid) (O : List Laid) → IsHistory limit (N ++ c ∷ O) → ended (N ++ c ∷ O) ≡ false → is_stream_end c.lexeme.kind ≡ false
not_ended limit [] c O h e = e
not_ended limit (n ∷ N) c O h e = not_ended limit N c O h.2 h.3

-- a lexeme that is no stream end ends to the right of its start
reach_right : (limit : ℕ) (N : List Laid) (c : Laid) (O : List Laid) (m : yaml_mark_t) → IsHistory limit (N ++ c ∷ O) → ended (N ++ c ∷ O) ≡ false → IsNotBefore (reach (N ++ c ∷ O)) m
    → c.lexeme.start.line ≡ m.line → c.lexeme.start.column < m.column
reach_right limit [] c O m h e b l =
    let r = (to_reach h.1) in
    let s : c.lexeme.start.line ≡ c.lexeme.reach.line = omega (arith, r.line, b.line) in
    let t = column_taken h.1 e s in
    let u = b.column (sym s ∙ l) in
    omega arith
reach_right limit (n ∷ N) c O m h e b l =
    let a = start_to_reach limit N c O h.2 in
    let x = IsNotBefore-trans _ _ _ a (to_start h.1) in
    let y = IsNotBefore-trans _ _ _ (to_reach h.1) b in
    let s : c.lexeme.start.line ≡ n.lexeme.start.line = omega (arith, x.line, y.line) in
    let t = reach_right limit N c O n.lexeme.start h.2 h.3 (to_start h.1) s in
    let u = y.column (sym s ∙ l) in
    omega arith

-- after the stream end nothing is live
pub waiting-ended : (limit : ℕ) (i : Laid) (H : List Laid) → IsHistory limit (i ∷ H) → is_stream_end i.lexeme.kind ≡ true → waiting limit (i ∷ H) ≡ None
unfolding waiting is_current
waiting-ended limit i H h e = ap last_of (none_passes (is_live_candidate limit (i ∷ H)) (i ∷ H) not_it)
  where
    not_it : (A : List Laid) (c : Laid) (B : List Laid) → i ∷ H ≡ A ++ c ∷ B → is_live_candidate limit (i ∷ H) c ≡ true → ⊥
    not_it [] c B q t =
        let f : i ≡ c = heads _ _ _ _ q in
        let g : is_live_candidate limit (i ∷ H) i ≡ true = subst (λ (x : Laid). is_live_candidate limit (i ∷ H) x ≡ true) (sym f) t in
        let p = and_parts _ _ g in
        let r = named_is i.number (candidate (i ∷ H) i.depth) p.0 in
        elim (candidate-is i H i.depth r.0 r.1) [
          | inl k ↦ false≢true (sym (end_not_candidate i.lexeme.kind e) ∙ k.1.candidate)
          | inr k ↦ (let a = candidate_split H i.depth r.0 k.0 in
              let n = number_in limit H a.newer r.0 a.older a.is h.2 in
              let b = number_at limit [] i H h in
              let d = ap (λ (X : List Laid). length X) a.is in
              let l = length-append a.newer (r.0 ∷ a.older) in
              omega (arith, r.2))
        ]
      where
        heads : (a b : Laid) (X Y : List Laid) → a ∷ X ≡ b ∷ Y → a ≡ b
        heads a b X Y w = cc
    not_it (a ∷ A) c B q t =
        let f : H ≡ A ++ c ∷ B = tails _ _ _ _ q in
        let l : live limit c i.lexeme.reach ≡ true = (and_parts _ _ t).1 in
        let m : i.lexeme.reach.line ≡ c.lexeme.start.line = eqb-true _ _ (and_parts _ _ l).0 in
        right f m
      where
        tails : (a b : Laid) (X Y : List Laid) → a ∷ X ≡ b ∷ Y → X ≡ Y
        tails a b X Y w = cc

        right : H ≡ A ++ c ∷ B → i.lexeme.reach.line ≡ c.lexeme.start.line → ⊥
        right f m =
            let g : IsHistory limit (A ++ c ∷ B) = subst (λ (X : List Laid). IsHistory limit X) f h.2 in
            let u : ended (A ++ c ∷ B) ≡ false = sym (ap ended f) ∙ h.3 in
            let v : IsNotBefore (reach (A ++ c ∷ B)) i.lexeme.start = subst (λ (X : List Laid). IsNotBefore (reach X) i.lexeme.start) f (to_start h.1) in
            let w = IsNotBefore-trans _ _ _ (start_to_reach limit A c B g) v in
            let x : c.lexeme.start.line ≡ i.lexeme.start.line = omega (arith, w.line, (to_reach h.1).line) in
            let y = reach_right limit A c B i.lexeme.start g u v x in
            let z = h.1.ends_at_column_0 e in
            omega arith

pub before-ended : (limit : ℕ) (i : Laid) (H : List Laid) → IsHistory limit (i ∷ H) → is_stream_end i.lexeme.kind ≡ true → before limit (i ∷ H) ≡ offline (i ∷ H)
unfolding offline
before-ended limit i H h e = before_all limit (i ∷ H) (waiting-ended limit i H h e)

-- THE ORDER OF CANDIDATES
-- the depth falls and rises by one at most
depth_rises : (i : Laid) (H : List Laid) → depth (i ∷ H) ≤ depth H ⊎ ((depth (i ∷ H) ≡ depth H + 1) × (is_flow_start i.lexeme.kind ≡ true))
depth_rises i H = elim (cases_Bool (is_flow_start i.lexeme.kind)) [
  | inl s ↦ inr (depth-start i H s (flow_kinds i.lexeme.kind s), s)
  | inr s ↦ elim (cases_Bool (is_flow_end i.lexeme.kind)) [
    | inl t ↦ inl (let d = depth-end i H s t in omega arith)
    | inr t ↦ inl (let d = depth-same i H s t in omega arith)
  ]
]

depth_falls : (i : Laid) (H : List Laid) → depth H ≤ depth (i ∷ H) + 1
depth_falls i H = elim (cases_Bool (is_flow_start i.lexeme.kind)) [
  | inl s ↦ (let d = depth-start i H s (flow_kinds i.lexeme.kind s) in omega arith)
  | inr s ↦ elim (cases_Bool (is_flow_end i.lexeme.kind)) [
    | inl t ↦ (let d = depth-end i H s t in omega arith)
    | inr t ↦ (let d = depth-same i H s t in omega arith)
  ]
]

-- a depth that no flow start enters is not reached
not_reached : (i : Laid) (H : List Laid) (k : ℕ) → i.depth ≡ depth H → enters k i ≡ false → depth H < k → depth (i ∷ H) < k
not_reached i H k d e l = elim (depth_rises i H) [
  | inl r ↦ omega arith
  | inr r ↦ elim (cases_eq (i.depth + 1) k) [
    | inl q ↦ absurd (false≢true (sym e ∙ and_from _ _ r.1 (eq-eqb _ _ q)))
    | inr q ↦ omega (arith, r.0)
  ]
]

shallow : (limit : ℕ) (k : ℕ) (M : List Laid) (d : Laid) (U N : List Laid) (c : Laid) (O : List Laid) → M ++ d ∷ U ≡ N ++ c ∷ O → IsHistory limit (M ++ d ∷ U) → AllKept k M
    → length U < length O → c.depth < k → depth (M ++ d ∷ U) < k
shallow limit k [] d U N c O q h a l b = let f = ap (λ (X : List Laid). length X) q in let g = length-append N (c ∷ O) in absurd (omega arith)
shallow limit k (j ∷ M) d U [] c O q h a l b =
    let f : j ≡ c = cc in
    let g : j.depth ≡ depth (M ++ d ∷ U) = depth_at limit [] j (M ++ d ∷ U) h in
    let x = ap (λ (p : Laid). p.depth) f in
    not_reached j (M ++ d ∷ U) k g a.0.not_entered (omega arith)
shallow limit k (j ∷ M) d U (n ∷ N) c O q h a l b =
    let f : M ++ d ∷ U ≡ N ++ c ∷ O = cc in
    let g : j.depth ≡ depth (M ++ d ∷ U) = depth_at limit [] j (M ++ d ∷ U) h in
    not_reached j (M ++ d ∷ U) k g a.0.not_entered (shallow limit k M d U N c O f h.2 a.1 l b)

-- candidates of greater depths are further on
pub candidate_order : (limit : ℕ) (H : List Laid) (k n : ℕ) (c d : Laid) → IsHistory limit H → candidate H k ≡ Some c → candidate H n ≡ Some d → k < n → n ≤ depth H → c.number < d.number
candidate_order limit H k n c d h s t l m =
    let a = candidate_split H k c s in
    let b = candidate_split H n d t in
    let u = number_in limit H a.newer c a.older a.is h in
    let v = number_in limit H b.newer d b.older b.is h in
    elim (cases_order c.number d.number) [
      | inl q ↦ (let w = (same_laid a.newer c a.older b.newer d b.older (sym a.is ∙ b.is) (omega arith)).0 in
          let x = ap (λ (p : Laid). p.depth) w in absurd (omega (arith, a.saved.depth, b.saved.depth)))
      | inr r ↦ elim r [
        | inl q ↦ q
        | inr q ↦ (let g : IsHistory limit (b.newer ++ d ∷ b.older) = subst (λ (X : List Laid). IsHistory limit X) b.is h in
            let x = shallow limit n b.newer d b.older a.newer c a.older (sym b.is ∙ a.is) g b.kept (omega arith) (omega (arith, a.saved.depth)) in
            let y = ap depth b.is in
            absurd (omega arith))
      ]
    ]

candidate-nil : (k : ℕ) → candidate [] k ≡ None
unfolding candidate
candidate-nil k = refl

-- above the depth there are none
pub candidate_above : (limit : ℕ) (H : List Laid) (k : ℕ) → IsHistory limit H → depth H < k → candidate H k ≡ None
candidate_above limit [] k h l = candidate-nil k
candidate_above limit (i ∷ H) k h l = elim (cases_Bool (enters k i)) [
  | inl e ↦ candidate-entered i H k e
  | inr e ↦ elim (cases_Bool (eqb i.depth k)) [
    | inl d ↦ candidate-cleared i H k e d (falls (eqb-true _ _ d))
    | inr d ↦ candidate-other i H k e d ∙ candidate_above limit H k h.2 (let f = depth_falls i H in let g = depth_at limit [] i H h in let n = eqb-false i.depth k d in lower n)
  ]
]
  where
    lower : (i.depth ≡ k → ⊥) → depth H < k
    lower n = let f = depth_falls i H in let g = depth_at limit [] i H h in elim (cases_eq (depth H) k) [ inl q ↦ absurd (n (g ∙ q)) | inr q ↦ omega arith ]

    falls : i.depth ≡ k → is_candidate i ≡ false
    falls q = elim (cases_Bool (is_flow_end i.lexeme.kind)) [
      | inl t ↦ flow_end_not_candidate i.lexeme.kind t
      | inr t ↦ (let g = depth_at limit [] i H h in elim (cases_Bool (is_flow_start i.lexeme.kind)) [
        | inl s ↦ (let x = depth-start i H s t in absurd (omega arith))
        | inr s ↦ (let x = depth-same i H s t in absurd (omega arith))
      ])
    ]

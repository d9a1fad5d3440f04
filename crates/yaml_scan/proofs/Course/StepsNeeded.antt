-- How many steps a token needs.
use Rattle.std.proofs.Common.{◌≡◌, ℕ, zero, suc, ◌+◌, ◌-◌, ◌≤◌, ◌<◌, max, true, false, List, [], ◌∷◌, ◌++◌, length, length-append, length-drop, drop-drop, drop, refl, ap, sym, ◌∙◌, subst, arith, inl, inr, append_assoc, ltb-true, ltb-false, lt-ltb}
use Rattle.std.specs.Prelude.{nat_lt, Bool}
use Rattle.std.proofs.lemmas.Bool.{cases_Bool, cases_eq, cases_lt, and_from, and_parts, false≢true}
use Rattle.std.proofs.lemmas.List.{drop_at}
use Rattle.yaml_scan.specs.Course.{oldest}
use Rattle.yaml_scan.specs.Laid.{Laid}
use Rattle.yaml_scan.specs.Settled.{before}
use Rattle.yaml_scan.specs.Order.{IsHistory}
use Rattle.yaml_scan.specs.Settled.{settled, least, steps_for, pace, first_steps}
use Rattle.yaml_scan.specs.SessionLaws.{PaceSettles, PaceIsLeast}
use Rattle.yaml_scan.proofs.TokenList.QueueBound.{length-begins}
use Rattle.yaml_scan.proofs.TokenList.SettledStays.{before-before}
use Rattle.yaml_scan.proofs.Course.NextStep.{oldest_all, oldest_tail}

-- the first steps are a tail
pub split : (H : List Laid) (k : ℕ) → k ≤ length H → (Y : List Laid) × (H ≡ Y ++ oldest k H)
split [] k l = ([], sym (oldest_all [] k (omega arith)))
split (i ∷ H) k l = elim (cases_eq k (length (i ∷ H))) [
  | inl e ↦ ([], sym (oldest_all (i ∷ H) k e))
  | inr e ↦ (let r = split H k (omega arith) in (i ∷ r.0, ap (λ (X : List Laid). i ∷ X) (r.1 ∙ ap (λ (X : List Laid). r.0 ++ X) (sym (oldest_tail i H k (omega arith))))))
]

pub oldest_of : (Y P : List Laid) → oldest (length P) (Y ++ P) ≡ P
oldest_of Y P = let l = length-append Y P in drop_at Y P (length (Y ++ P) - length P) (omega arith)

-- more lexemes settle no fewer tokens
pub grows : (limit : ℕ) (H : List Laid) (k : ℕ) → IsHistory limit H → k ≤ length H → length (before limit (oldest k H)) ≤ length (before limit H)
grows limit H k h l = let r = split H k l in
    subst (λ (X : List Laid). length (before limit (oldest k H)) ≤ length (before limit X)) (sym r.1) (length-begins _ _ (before-before limit r.0 (oldest k H) (subst (λ (X : List Laid). IsHistory limit X) r.1 h)))

-- they are one, or have a last step before which it is not settled
pub record IsPace (limit : ℕ) (H : List Laid) (t : ℕ) (s : ℕ) : Type 0 where
  pub later : List Laid
  pub done : List Laid
  pub is : H ≡ later ++ done
  pub steps : s ≡ length done + 1
  pub settled : t < length (before limit H) → t < length (before limit done)

-- HISTORIES
drop_none : (n : ℕ) (H : List Laid) → n ≡ 0 → drop n H ≡ H
drop_none n H e = rw e refl

pub older : (limit : ℕ) (A B : List Laid) → IsHistory limit (A ++ B) → IsHistory limit B
older limit [] B g = g
older limit (i ∷ A) B g = older limit A B g.2

pub oldest_length : (H : List Laid) (k : ℕ) → k ≤ length H → length (oldest k H) ≡ k
oldest_length H k m = let q = length-drop (length H - k) H in omega arith

pub oldest_twice : (H : List Laid) (k n : ℕ) → k ≤ n → n ≤ length H → oldest k (oldest n H) ≡ oldest k H
oldest_twice H k n u v =
    let q = oldest_length H n v in
    let e : (length H - n) + (length (oldest n H) - k) ≡ length H - k = omega arith in
    drop-drop (length (oldest n H) - k) (length H - n) H ∙ ap (λ (x : ℕ). drop x H) e

pub settled_from : (limit : ℕ) (H : List Laid) (t k s : ℕ) → IsHistory limit H → 0 < s → k ≤ s - 1 → t < length (before limit (oldest k H)) → k ≤ length H → settled limit H t s ≡ true
settled_from limit H t k s h p l a b = and_from _ _ (lt-ltb 0 s p) (lt-ltb t (length (before limit (first_steps s H))) (elim (cases_lt (length H) (s - 1)) [
  | inl x ↦ (let z : oldest (s - 1) H ≡ H = drop_none (length H - (s - 1)) H (omega arith) in let g = grows limit H k h b in rw z (omega arith))
  | inr x ↦ (let y = split H (s - 1) x in
      let hs : IsHistory limit (oldest (s - 1) H) = older limit y.0 (oldest (s - 1) H) (subst (λ (X : List Laid). IsHistory limit X) y.1 h) in
      let n : length (oldest (s - 1) H) ≡ s - 1 = oldest_length H (s - 1) x in
      let g = grows limit (oldest (s - 1) H) k hs (omega arith) in
      let e : oldest k (oldest (s - 1) H) ≡ oldest k H = oldest_twice H k (s - 1) l x in
      let f = ap (λ (X : List Laid). length (before limit X)) e in
      omega arith)
]))

-- THE LEAST NUMBER
least_range : (test : ℕ → Bool) (n k : ℕ) → (n ≤ least test n k) × (least test n k ≤ n + k)
unfolding least
least_range test n zero = (omega arith, omega arith)
least_range test n (suc k) = let r = least_range test (n + 1) k in elim (cases_Bool (test n)) [ inl q ↦ rw q (omega arith, omega arith) | inr q ↦ rw q (omega arith, omega arith) ]

least_passes : (test : ℕ → Bool) (n k : ℕ) → least test n k < n + k → test (least test n k) ≡ true
unfolding least
least_passes test n zero l = absurd (omega arith)
least_passes test n (suc k) l = elim (cases_Bool (test n)) [
  | inl q ↦ rw q q
  | inr q ↦ (let m : least test (n + 1) k < n + suc k = rw q at l in rw q (least_passes test (n + 1) k (omega arith)))
]

least_first : (test : ℕ → Bool) (n k m : ℕ) → n ≤ m → m < least test n k → test m ≡ false
unfolding least
least_first test n zero m a l = absurd (omega arith)
least_first test n (suc k) m a l = elim (cases_Bool (test n)) [
  | inl q ↦ (let b : m < n = rw q at l in absurd (omega arith))
  | inr q ↦ (let b : m < least test (n + 1) k = rw q at l in elim (cases_eq m n) [
    | inl e ↦ rw e q
    | inr e ↦ least_first test (n + 1) k m (omega arith) b
  ])
]

pub at_least : (limit : ℕ) (H : List Laid) (t : ℕ) → 1 ≤ steps_for limit H t
unfolding steps_for
at_least limit H t = (least_range (settled limit H t) 1 (length H)).0

pub at_most : (limit : ℕ) (H : List Laid) (t : ℕ) → steps_for limit H t ≤ length H + 1
unfolding steps_for
at_most limit H t = let r = (least_range (settled limit H t) 1 (length H)).1 in omega arith

-- unless these are all steps, they settle the token
settles : (limit : ℕ) (H : List Laid) (t : ℕ) → steps_for limit H t ≤ length H → settled limit H t (steps_for limit H t) ≡ true
unfolding steps_for
settles limit H t l = least_passes (settled limit H t) 1 (length H) (omega arith)

-- fewer do not
not_before : (limit : ℕ) (H : List Laid) (t n : ℕ) → 1 ≤ n → n < steps_for limit H t → settled limit H t n ≡ false
unfolding steps_for
not_before limit H t n a l = least_first (settled limit H t) 1 (length H) n a l

-- in the words of lists
settled_is : (limit : ℕ) (H : List Laid) (t n : ℕ) → settled limit H t n ≡ true → t < length (before limit (oldest (n - 1) H))
settled_is limit H t n e = ltb-true t (length (before limit (oldest (n - 1) H))) (and_parts (nat_lt 0 n) (nat_lt t (length (before limit (first_steps n H)))) e).1

unsettled_is : (limit : ℕ) (H : List Laid) (t n : ℕ) → 0 < n → settled limit H t n ≡ false → length (before limit (oldest (n - 1) H)) ≤ t
unsettled_is limit H t n p e = elim (cases_Bool (nat_lt t (length (before limit (first_steps n H))))) [
  | inl q ↦ absurd (false≢true (sym e ∙ and_from _ _ (lt-ltb 0 n p) q))
  | inr q ↦ ltb-false _ _ q
]

pub steps_for_is : (limit : ℕ) (H : List Laid) (t : ℕ) → IsPace limit H t (steps_for limit H t)
steps_for_is limit H t =
    let s = steps_for limit H t in
    let a = at_least limit H t in
    let b = at_most limit H t in
    let r = split H (s - 1) (omega arith) in
    let n = oldest_length H (s - 1) (omega arith) in
    record {
      later = r.0;
      done = oldest (s - 1) H;
      is = r.1;
      steps = omega arith;
      settled = λ l. elim (cases_lt (length H) s) [
        | inl x ↦ (let e : oldest (s - 1) H ≡ H = oldest_all H (s - 1) (omega arith) in rw e l)
        | inr x ↦ settled_is limit H t s (settles limit H t x)
      ];
    }

pub steps_for_least : (limit : ℕ) (Y : List Laid) (i : Laid) (P : List Laid) (t : ℕ) → steps_for limit (Y ++ i ∷ P) t ≡ length P + 2 → length (before limit P) ≤ t
steps_for_least limit Y i P t e =
    let H : List Laid = Y ++ i ∷ P in
    let f = unsettled_is limit H t (length P + 1) (omega arith) (not_before limit H t (length P + 1) (omega arith) (omega arith)) in
    let g : oldest (length P) ((Y ++ i ∷ []) ++ P) ≡ P = oldest_of (Y ++ i ∷ []) P in
    let h : (Y ++ i ∷ []) ++ P ≡ H = append_assoc Y (i ∷ []) P in
    let m : length P + 1 - 1 ≡ length P = omega arith in
    subst (λ (X : List Laid). length (before limit X) ≤ t) (ap (λ (n : ℕ). oldest n H) m ∙ ap (λ (X : List Laid). oldest (length P) X) (sym h) ∙ g) f

-- settled after k lexemes: as many steps are enough
pub enough : (limit : ℕ) (H : List Laid) (t k : ℕ) → k ≤ length H → t < length (before limit (oldest k H)) → steps_for limit H t ≤ k + 1
enough limit H t k l s = elim (cases_lt (k + 1) (steps_for limit H t)) [
  | inr x ↦ x
  | inl x ↦ (let u = unsettled_is limit H t (k + 1) (omega arith) (not_before limit H t (k + 1) (omega arith) x) in
      let m : k + 1 - 1 ≡ k = omega arith in
      let v = ap (λ (n : ℕ). length (before limit (oldest n H))) m in
      absurd (omega arith))
]

-- and not settled: more are needed
pub needs_more : (limit : ℕ) (H : List Laid) (t k : ℕ) → IsHistory limit H → k < length H → length (before limit (oldest k H)) ≤ t → k + 1 < steps_for limit H t
needs_more limit H t k h l s = elim (cases_lt (k + 1) (steps_for limit H t)) [
  | inl x ↦ x
  | inr x ↦ (let a = at_least limit H t in
      let b = settled_is limit H t (steps_for limit H t) (settles limit H t (omega arith)) in
      let c = settled_is limit H t (k + 1) (settled_from limit H t (steps_for limit H t - 1) (k + 1) h (omega arith) (omega arith) b (omega arith)) in
      let m : k + 1 - 1 ≡ k = omega arith in
      let v = ap (λ (n : ℕ). length (before limit (oldest n H))) m in
      absurd (omega arith))
]

-- THE LAWS
pub pace_settles : PaceSettles
unfolding pace
pace_settles limit H t s h l =
    let r = steps_for_is limit H t in
    let n = ap (λ (X : List Laid). length X) r.is in
    let m = length-append r.later r.done in
    let e : oldest (length r.done) H ≡ r.done = subst (λ (X : List Laid). oldest (length r.done) X ≡ r.done) (sym r.is) (oldest_of r.later r.done) in
    let d : t < length (before limit (oldest (length r.done) H)) = rw e (r.settled l) in
    settled_from limit H t (length r.done) (max s (steps_for limit H t)) h (omega (arith, r.steps)) (omega (arith, r.steps)) d (omega arith)

pub pace_is_least : PaceIsLeast
unfolding pace
pace_is_least limit H t s r h l e m =
    let p = and_parts (nat_lt 0 r) (nat_lt t (length (before limit (first_steps r H)))) e in
    let a = ltb-true 0 r p.0 in
    let b = ltb-true t (length (before limit (first_steps r H))) p.1 in
    let f = enough limit H t (r - 1) (omega arith) b in
    (omega arith, omega arith)

-- What it means that a reader depends on no character eight or more past where it ends.
use Rattle.std.proofs.Common.{◌≡◌, ℕ, zero, suc, ◌+◌, ◌<◌, ◌≤◌, Bool, length, take, Ok, Err, refl, sym, ap, ◌∙◌, subst, arith, inl, inr, get_or-drop, get_or-take}
use Rattle.std.proofs.lemmas.List.{ext_get_or, length-take-le}
use Rattle.std.proofs.lemmas.List.Sums.{prefix_len_is, prefix_len_passes, prefix_len_stops}
use Rattle.yaml_lexeme.proofs.Locality.AgreeingPlaces.{Agree, by_agreeing}
use Rattle.yaml_lexeme.proofs.MarkOrder.ReadingAhead.{ahead_any}
use Rattle.yaml_lexeme.proofs.Places.PlaceMoves.{skip_one, skip_more, skip_none, length_skip, skip_skip}
use Rattle.yaml_lexeme.specs.Locality.{reach, move, IsLocal}
use Rattle.yaml_lexeme.specs.Order.{IsBeyond, distance}
use Rattle.yaml_lexeme.specs.Place.{Place, peek, skip, run_len}
use Rattle.yaml_lexeme.specs.Reading.{Read, found, refuse}

pub agree_less : (m n : ℕ) (p q : Place) → m ≤ n → Agree n p q → Agree m p q
agree_less m n p q h a = record { mark = a.mark; left = omega (arith, a.left); right = omega (arith, a.right); same = λ i l. a.same i (omega arith) }

peek_skip : (p : Place) (i : ℕ) → 0 < length p.rest → peek (skip 1 p) i ≡ peek p (1 + i)
peek_skip p i h = rw (skip_one p h) (get_or-drop 1 p.rest i 0)

marks_same : (p q : Place) → 0 < length p.rest → 0 < length q.rest → p.mark ≡ q.mark → peek p 0 ≡ peek q 0 → peek p 1 ≡ peek q 1 → (skip 1 p).mark ≡ (skip 1 q).mark
marks_same p q hp hq m a b = rw (skip_one p hp, skip_one q hq, m, a, b) refl

pub agree_one : (n : ℕ) (p q : Place) → Agree (2 + n) p q → Agree (1 + n) (skip 1 p) (skip 1 q)
agree_one n p q a =
    let hp : 0 < length p.rest = omega (arith, a.left) in
    let hq : 0 < length q.rest = omega (arith, a.right) in
    record {
      mark = marks_same p q hp hq a.mark (a.same 0 (omega arith)) (a.same 1 (omega arith));
      left = omega (arith, a.left, length_skip 1 p);
      right = omega (arith, a.right, length_skip 1 q);
      same = λ i l. peek_skip p i hp ∙ a.same (1 + i) (omega arith) ∙ sym (peek_skip q i hq);
    }

-- and so after k characters
pub agree_skip : (k n : ℕ) (p q : Place) → Agree (k + (1 + n)) p q → Agree (1 + n) (skip k p) (skip k q)
agree_skip zero n p q a = rw (skip_none p, skip_none q) (agree_less (1 + n) _ p q (omega arith) a)
agree_skip (suc k) n p q a =
    rw (skip_more k p, skip_more k q) (agree_skip k n (skip 1 p) (skip 1 q) (agree_less (k + (1 + n)) (1 + (k + n)) (skip 1 p) (skip 1 q) (omega arith) (agree_one (k + n) p q (agree_less (2 + (k + n)) _ p q (omega arith) a))))

-- a run that ends inside is as long
pub run_same : (test : ℕ → Bool) (p q : Place) → Agree (run_len test p + 1) p q → run_len test q ≡ run_len test p
run_same test p q a =
    let n = run_len test p in
    prefix_len_is test q.rest n 0 (omega (arith, a.right))
    (λ k l. rw (← a.same k (omega arith)) (prefix_len_passes test p.rest k 0 l))
    (λ l. rw (← a.same n (omega arith)) (prefix_len_stops test p.rest 0 (omega (arith, a.left))))

pub take_same : (n : ℕ) (p q : Place) → Agree n p q → take n q.rest ≡ take n p.rest
take_same n p q a =
    let lp = length-take-le n p.rest a.left in
    let lq = length-take-le n q.rest a.right in
    ext_get_or 0 (take n q.rest) (take n p.rest) (omega arith) (λ i l. get_or-take n q.rest i 0 (omega arith) ∙ sym (a.same i (omega arith)) ∙ sym (get_or-take n p.rest i 0 (omega arith)))

-- reading from p on ended k characters on
abbrev pub EndsAt : {A : Type 0} → ℕ → Place → Read A → Type 0
EndsAt k p (Ok f) = f.end ≡ skip k p
EndsAt k p (Err e) = e.at ≡ skip k p

pub record Local {A : Type 0} (read : Place → Read A) (p : Place) : Type 0 where
  pub count : ℕ
  pub ends : EndsAt count p (read p)
  pub same : (q : Place) → Agree (count + 8) p q → read q ≡ move (read p) (skip count q)

rw_agree : (n : ℕ) (p q : Place) → Agree (1 + (n + 7)) p q → Agree (n + 8) p q
rw_agree n p q a = agree_less (n + 8) (1 + (n + 7)) p q (omega arith) a

ends_after : {A : Type 0} → (k n : ℕ) (p : Place) (r : Read A) → EndsAt n (skip k p) r → EndsAt (k + n) p r
ends_after k n p (Ok r) h = h ∙ skip_skip k n p
ends_after k n p (Err r) h = h ∙ skip_skip k n p

-- what comes after k characters
pub local_after : {A : Type 0} → (read : Place → Read A) (k : ℕ) (p : Place) → Local read (skip k p) → Local (λ x. read (skip k x)) p
local_after read k p here =
    let n = here.count in
    record {
      count = k + n;
      ends = ends_after k n p (read (skip k p)) here.ends;
      same = λ q a.
          here.same (skip k q) (rw_agree n (skip k p) (skip k q) (agree_skip k (n + 7) p q (agree_less (k + (1 + (n + 7))) (k + n + 8) p q (omega arith) a)))
          ∙ ap (move (read (skip k p))) (skip_skip k n q);
    }

reach_is : {A : Type 0} → (k : ℕ) (p : Place) (r : Read A) → EndsAt k p r → reach r ≡ skip k p
reach_is k p (Ok r) h = h
reach_is k p (Err r) h = h

-- reading that ended k characters on is the same at a place with k + 8 characters in common
abbrev pub IsLocalTo : {A : Type 0} → (Place → Read A) → Type 0
IsLocalTo read = (p q : Place) (k : ℕ) → reach (read p) ≡ skip k p → Agree (k + 8) p q → read q ≡ move (read p) (skip k q)

pub is_local_to : {A : Type 0} → (read : Place → Read A) → ((p : Place) → Local read p) → IsLocalTo read
is_local_to read all p q k e a =
    let here = all p in
    let c = here.count in
    let lengths = ap (λ (x : Place). length x.rest) (sym (reach_is c p (read p) here.ends) ∙ e) in
    let same : c ≡ k = omega (arith, a.left, length_skip c p, length_skip k p, lengths) in
    subst (λ (n : ℕ). read q ≡ move (read p) (skip n q)) same (here.same q (subst (λ (n : ℕ). Agree (n + 8) p q) (sym same) a))

-- the place that a distance leads to
pub distance_on : (p x : Place) → IsBeyond 0 p x → x ≡ skip (distance p x) p
distance_on p x a =
    let l = ap (λ (y : Place). length y.rest) a.is in
    let c : a.count ≡ distance p x = omega (arith, a.within, length_skip a.count p) in
    a.is ∙ ap (λ (n : ℕ). skip n p) c

move_self : {A : Type 0} → (r : Read A) (x : Place) → reach r ≡ x → r ≡ move r x
move_self (Ok f) x e = ap (λ (y : Place). found f.value y) e
move_self (Err o) x e = ap (λ (y : Place). refuse o.problem y) e

-- the law, from the count of characters that was found
pub is_local : {A : Type 0} → (read : Place → Read A) → ((p : Place) → Local read p) → IsLocal read
is_local read all p q a =
    let here = all p in
    let k = distance p (reach (read p)) in
    let e = reach_is here.count p (read p) here.ends in
    let ahead : IsBeyond 0 p (reach (read p)) = subst (λ (x : Place). IsBeyond 0 p x) (sym e) (ahead_any here.count p) in
    let is = distance_on p (reach (read p)) ahead in
    elim (by_agreeing (k + 8) p q a) [
      | inl same ↦ subst (λ (x : Place). read x ≡ move (read p) (skip k x)) same (move_self (read p) (skip k p) is)
      | inr long ↦ is_local_to read all p q k is long
    ]

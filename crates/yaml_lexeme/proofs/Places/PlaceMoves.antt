-- How a place moves by characters, runs and breaks.
use Rattle.std.proofs.Common.{◌≡◌, ℕ, zero, suc, ◌+◌, ◌-◌, ◌<◌, ◌≤◌, Bool, true, false, cond, inl, inr, List, [], ◌∷◌, length, slice_index, drop, refl, sym, ap, ◌∙◌, arith, length-drop, get_or-drop}
use Rattle.std.proofs.lemmas.Bool.Decides.{nat_tests}
use Rattle.std.proofs.lemmas.Bool.{cases_lt}
use Rattle.std.proofs.lemmas.List.{get_or_past}
use Rattle.std.specs.List.{prefix_len}
use Rattle.yaml_text.specs.declared.types.yaml_mark_t.{yaml_mark_t}
use Rattle.yaml_lexeme.specs.declared.runs.class_t.{class_t}
use Rattle.yaml_lexeme.specs.declared.runs.class_t.TheVariants.{BLANK, GAP_BLANK, SPACE, BLANK_OR_BREAK, ALPHA, URI, IN_LINE, DOUBLE, SINGLE, PLAIN, FLOW}
use Rattle.yaml_lexeme.specs.Place.{Place, peek, first, skip, after_run, break_len}
use Rattle.yaml_lexeme.specs.inside.Moves.{mark_after, skip_from, is_feed}
use Rattle.yaml_lexeme.specs.inside.Runs.{class_test}
use Rattle.yaml_lexeme.specs.Classes.{is_white, is_in_line}
use Rattle.yaml_text.specs.Classes.{is_blank, is_break, is_z}

one : (m : yaml_mark_t) (cs : List ℕ) → 0 < length cs → skip_from 1 m cs ≡ record { mark = mark_after m (peek (record { mark = m; rest = cs }) 0) (peek (record { mark = m; rest = cs }) 1); rest = drop 1 cs }
one m [] h = absurd (omega arith)
one m (c ∷ cs) h = refl

pub skip_one : (p : Place) → 0 < length p.rest → skip 1 p ≡ record { mark = mark_after p.mark (peek p 0) (peek p 1); rest = drop 1 p.rest }
unfolding skip
skip_one p h = one p.mark p.rest h

pub moved : (p : Place) (m₀ m : yaml_mark_t) (cs ds : List ℕ) (next : ℕ) → record { mark = m₀; rest = cs } ≡ p → 0 < length cs → next ≡ peek p 1 → m ≡ mark_after m₀ (slice_index cs 0) next → ds ≡ drop 1 cs
    → record { mark = m; rest = ds } ≡ skip 1 p
moved p m₀ m cs ds next v h n e d =
    let q : Place = record { mark = m₀; rest = cs } in
    let same : next ≡ peek q 1 = n ∙ ap (λ (x : Place). peek x 1) (sym v) in
    rw (e, d, same) (sym (skip_one q h)) ∙ ap (skip 1) v

nothing : (n : ℕ) (m : yaml_mark_t) → skip_from n m [] ≡ record { mark = m; rest = [] }
nothing zero m = refl
nothing (suc n) m = refl

still : (n : ℕ) (m : yaml_mark_t) (cs : List ℕ) → length cs ≡ 0 → record { mark = m; rest = cs } ≡ skip_from n m cs
still n m [] h = sym (nothing n m)
still n m (c ∷ cs) h = absurd (omega arith)

-- nothing is left to take
pub stays : (n : ℕ) (p : Place) → length p.rest ≡ 0 → p ≡ skip n p
unfolding skip
stays n p h = still n p.mark p.rest h

more : (n : ℕ) (m : yaml_mark_t) (cs : List ℕ) → skip_from (suc n) m cs ≡ skip_from n (skip_from 1 m cs).mark (skip_from 1 m cs).rest
more n m [] = sym (nothing n m)
more n m (c ∷ cs) = refl

-- the place n characters on is reached one by one
pub skip_more : (n : ℕ) (p : Place) → skip (suc n) p ≡ skip n (skip 1 p)
unfolding skip
skip_more n p = more n p.mark p.rest

pub skip_none : (p : Place) → skip 0 p ≡ p
unfolding skip
skip_none p = refl

rest_from : (n : ℕ) (m : yaml_mark_t) (cs : List ℕ) → (skip_from n m cs).rest ≡ drop n cs
rest_from zero m cs = refl
rest_from (suc n) m [] = refl
rest_from (suc n) m (c ∷ cs) = rest_from n (mark_after m c (slice_index cs 0)) cs

-- what is left after n characters
pub rest_skip : (n : ℕ) (p : Place) → (skip n p).rest ≡ drop n p.rest
unfolding skip
rest_skip n p = rest_from n p.mark p.rest

pub length_skip : (n : ℕ) (p : Place) → length (skip n p).rest ≡ length p.rest - n
length_skip n p = ap length (rest_skip n p) ∙ length-drop n p.rest

pub length_one : (p : Place) → length (skip 1 p).rest ≡ length p.rest - 1
length_one p = length_skip 1 p

-- the character k places on is the first at the place there
pub peek_on : (k i : ℕ) (p : Place) → peek (skip k p) i ≡ peek p (k + i)
peek_on k i p = ap (λ (cs : List ℕ). slice_index cs i) (rest_skip k p) ∙ get_or-drop k p.rest i 0

pub first_on : (k : ℕ) (p : Place) → first (skip k p) ≡ peek p k
first_on k p = let e : k + 0 ≡ k = omega arith in peek_on k 0 p ∙ ap (peek p) e

pub skip_step : (n i : ℕ) (p q : Place) → i < n → skip (n - i) p ≡ q → skip (n - (i + 1)) (skip 1 p) ≡ q
skip_step n i p q h e = let k : n - i ≡ suc (n - (i + 1)) = omega arith in sym (skip_more (n - (i + 1)) p) ∙ rw (← k) e

run_more : (test : ℕ → Bool) (m : yaml_mark_t) (cs : List ℕ) → test (slice_index cs 0) ≡ true → test 0 ≡ false → let p : Place = record { mark = m; rest = cs } in (0 < length cs) × (after_run test p ≡ after_run test (skip 1 p))
unfolding skip
run_more test m [] h none = absurd (grind (arith, nat_tests))
run_more test m (c ∷ cs) h none =
    let k : 1 + prefix_len test cs ≡ suc (prefix_len test cs) = omega arith in
    (omega arith, rw (h, k) refl)

-- a run is taken one by one
pub after_run_more : (test : ℕ → Bool) (p : Place) → test (first p) ≡ true → test 0 ≡ false → (0 < length p.rest) × (after_run test p ≡ after_run test (skip 1 p))
after_run_more test p h none = run_more test p.mark p.rest h none

run_none : (test : ℕ → Bool) (m : yaml_mark_t) (cs : List ℕ) → test (slice_index cs 0) ≡ false → let p : Place = record { mark = m; rest = cs } in after_run test p ≡ p
unfolding skip
run_none test m [] h = refl
run_none test m (c ∷ cs) h = rw h refl

pub after_none : (test : ℕ → Bool) (p : Place) → test (first p) ≡ false → after_run test p ≡ p
after_none test p h = run_none test p.mark p.rest h

-- no run goes past the end
pub class_end : (class : class_t) → class_test class 0 ≡ false
class_end BLANK = refl
class_end (GAP_BLANK tabs) = refl
class_end SPACE = refl
class_end BLANK_OR_BREAK = refl
class_end ALPHA = refl
class_end (URI true) = refl
class_end (URI false) = refl
class_end IN_LINE = refl
class_end DOUBLE = refl
class_end SINGLE = refl
class_end PLAIN = refl
class_end FLOW = refl

pub within_if : (b : Bool) (p q r : Place) → length q.rest ≤ length p.rest → length r.rest ≤ length p.rest → length (cond b q r).rest ≤ length p.rest
within_if true p q r hq hr = hq
within_if false p q r hq hr = hr

-- a run that is not empty
pub run_nearer : (test : ℕ → Bool) (p : Place) → test (first p) ≡ true → test 0 ≡ false → length (after_run test p).rest < length p.rest
run_nearer test p h none =
    let t = after_run_more test p h none in
    omega (arith, t.0, ap (λ (x : Place). length x.rest) t.1, length_skip (prefix_len test (skip 1 p).rest) (skip 1 p), length_one p)

-- a character other than the end is in the text
pub is_there : (p : Place) (k : ℕ) → 0 < peek p k → k < length p.rest
is_there p k h = elim (cases_lt k (length p.rest)) [ inl within ↦ within | inr past ↦ absurd (omega (arith, get_or_past p.rest k 0 past)) ]

pub break_within : (p : Place) → 0 < break_len p → 0 < length p.rest
break_within p h = is_there p 0 (grind (arith, nat_tests))

-- the place n characters after one k characters on
pub skip_skip : (k n : ℕ) (p : Place) → skip n (skip k p) ≡ skip (k + n) p
skip_skip zero n p = let e : 0 + n ≡ n = omega arith in rw e (ap (skip n) (skip_none p))
skip_skip (suc k) n p = let e : suc k + n ≡ suc (k + n) = omega arith in ap (skip n) (skip_more k p) ∙ skip_skip k n (skip 1 p) ∙ sym (skip_more (k + n) p) ∙ ap (λ x. skip x p) (sym e)

-- classes of characters
pub some_char : (c : ℕ) → is_z c ≡ false → 0 < c
some_char c h = grind (arith, nat_tests)

pub in_or_break : (c : ℕ) → is_z c ≡ false → is_in_line c ≡ false → is_break c ≡ true
in_or_break c e h = grind (arith, nat_tests)

pub blank_white : (c : ℕ) → is_blank c ≡ true → is_white c ≡ true
blank_white c h = rw h refl

pub solid : (c : ℕ) → is_blank c ≡ false → is_break c ≡ false → is_white c ≡ false
solid c a b = rw (a, b) refl

pub is_break_len : (p : Place) → is_break (first p) ≡ true → 0 < break_len p
is_break_len p h = grind (arith, nat_tests)

pub feed_break : (c next : ℕ) → is_feed c next ≡ true → is_break c ≡ true
feed_break c next h = grind (arith, nat_tests)

-- a line feed and spaces
pub feed_and_spaces : (p q r s : Place) → first p ≡ 10 → q ≡ p → r ≡ skip 1 q → s ≡ after_run (class_test SPACE) r → s ≡ after_run (class_test SPACE) (skip (break_len p) p)
feed_and_spaces p q r s e a b d =
    let one : break_len p ≡ 1 = rw e refl in
    d ∙ ap (after_run (class_test SPACE)) (b ∙ ap (skip 1) a ∙ ap (λ k. skip k p) (sym one))

-- a carriage return, a line feed and spaces
pub return_and_spaces : (p q r s : Place) → first p ≡ 13 → peek p 1 ≡ 10 → q ≡ skip 1 p → r ≡ skip 1 q → s ≡ after_run (class_test SPACE) r → s ≡ after_run (class_test SPACE) (skip (break_len p) p)
return_and_spaces p q r s e n a b d =
    let two : break_len p ≡ 2 = rw (e, n) refl in
    d ∙ ap (after_run (class_test SPACE)) (b ∙ ap (skip 1) a ∙ skip_skip 1 1 p ∙ ap (λ k. skip k p) (sym two))

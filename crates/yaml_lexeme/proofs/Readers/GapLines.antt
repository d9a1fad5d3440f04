-- A gap is read gap line by gap line.
use Rattle.std.proofs.Common.{◌≡◌, ℕ, zero, suc, ◌<◌, ◌≤◌, Bool, true, false, cond, not, ◌==◌, ◌&&◌, ◌||◌, inl, inr, length, refl, sym, ap, ◌∙◌, arith}
use Rattle.std.proofs.lemmas.Bool.Decides.{nat_tests}
use Rattle.std.proofs.lemmas.Bool.{cases_lt, cases_Bool, and_right}
use Rattle.std.specs.Prelude.{nat_lt}
use Rattle.yaml_text.specs.Classes.{is_break}
use Rattle.yaml_lexeme.specs.declared.runs.class_t.TheVariants.{SPACE}
use Rattle.yaml_lexeme.specs.inside.Runs.{class_test, is_solid}
use Rattle.yaml_lexeme.proofs.Places.PlaceMoves.{skip_none, length_skip, length_one, within_if, break_within, after_none, after_run_more, first_on, is_break_len}
use Rattle.yaml_lexeme.specs.Classes.{is_in_line}
use Rattle.yaml_lexeme.specs.Gap.{byte_order_mark, is_gap_blank, after_mark, after_comment, after_gap_line}
use Rattle.yaml_lexeme.specs.Gap.{after_gap_lines, gap}
use Rattle.yaml_lexeme.specs.Decider.{IsGap}
use Rattle.yaml_lexeme.specs.inside.Moves.{past_break}
use Rattle.yaml_lexeme.specs.Place.{Place, first, peek, skip, after_run, run_len, break_len}

pub within_line : (tabs : Bool) (p : Place) → length (after_gap_line tabs p).rest ≤ length p.rest
unfolding after_gap_line
within_line tabs p =
    let a = after_mark p in
    let b = after_run (is_gap_blank tabs) a in
    let ha : length a.rest ≤ length p.rest = within_if (p.mark.column == 0 && first p == byte_order_mark) p (skip 1 p) p (omega (arith, length_skip 1 p)) (omega arith) in
    let hb : length b.rest ≤ length a.rest = omega (arith, length_skip (run_len (is_gap_blank tabs) a) a) in
    let hc : length (after_comment b).rest ≤ length b.rest = within_if (first b == 0x23) b (after_run is_in_line b) b (omega (arith, length_skip (run_len is_in_line b) b)) (omega arith) in
    omega arith

abbrev pub next_line : Bool → Place → Place
next_line flow p = after_gap_line flow (skip (break_len p) p)

next_shorter : (flow : Bool) (p : Place) → 0 < break_len p → length (next_line flow p).rest < length p.rest
next_shorter flow p h = omega (arith, within_line flow (skip (break_len p) p), length_skip (break_len p) p, break_within p h)

-- how many lines are allowed does not matter, if they are enough
pub any_fuel : (n m : ℕ) (flow : Bool) (p : Place) → length p.rest ≤ n → length p.rest ≤ m → after_gap_lines n flow p ≡ after_gap_lines m flow p
unfolding after_gap_lines
any_fuel zero zero flow p hn hm = refl
any_fuel zero (suc m) flow p hn hm =
    elim (cases_lt 0 (break_len p)) [
      | inl more ↦ absurd (omega (arith, break_within p more))
      | inr none ↦ let e : break_len p ≡ 0 = omega arith in rw e refl
    ]
any_fuel (suc n) zero flow p hn hm =
    elim (cases_lt 0 (break_len p)) [
      | inl more ↦ absurd (omega (arith, break_within p more))
      | inr none ↦ let e : break_len p ≡ 0 = omega arith in rw e refl
    ]
any_fuel (suc n) (suc m) flow p hn hm =
    elim (cases_lt 0 (break_len p)) [
      | inl more ↦
          let s = next_shorter flow p more in
          ap (cond (break_len p == 0) p) (any_fuel n m flow (next_line flow p) (omega arith) (omega arith))
      | inr none ↦ let e : break_len p ≡ 0 = omega arith in rw e refl
    ]

-- the loop has come to p
abbrev pub Comes : Bool → Place → Place → Type 0
Comes flow p q = after_gap_lines (length p.rest) flow p ≡ after_gap_lines (length q.rest) flow q

step : (n : ℕ) (flow : Bool) (p : Place) → 0 < break_len p → after_gap_lines (suc n) flow p ≡ after_gap_lines n flow (next_line flow p)
unfolding after_gap_lines
step n flow p h = let e : (break_len p == 0) ≡ false = grind (arith, nat_tests) in rw e refl

pub line_goes : (flow : Bool) (p q : Place) → 0 < break_len p → Comes flow p q → (length (next_line flow p).rest < length p.rest) × Comes flow (next_line flow p) q
line_goes flow p q h e =
    let s = next_shorter flow p h in
    let r = next_line flow p in
    let one = step (length p.rest) flow p h in
    let same = any_fuel (length p.rest) (suc (length p.rest)) flow p (omega arith) (omega arith) in
    (s, any_fuel (length r.rest) (length p.rest) flow r (omega arith) (omega arith) ∙ sym one ∙ sym same ∙ e)

pub line_ends : (flow : Bool) (p q : Place) → break_len p ≡ 0 → Comes flow p q → p ≡ after_gap_lines (length q.rest) flow q
unfolding after_gap_lines
line_ends flow p q h e = let last : after_gap_lines (suc (length p.rest)) flow p ≡ p = rw h refl in sym last ∙ any_fuel (suc (length p.rest)) (length p.rest) flow p (omega arith) (omega arith) ∙ e

-- ---- gaps that are taken at once

record Solid (tabs : Bool) (c : ℕ) : Type 0 where
  blank : is_gap_blank tabs c ≡ false
  comment : (c == 0x23) ≡ false
  break : is_break c ≡ false
  mark : (c == byte_order_mark) ≡ false

solid_is : (tabs : Bool) (c : ℕ) → is_solid c ≡ true → Solid tabs c
solid_is tabs c h = record { blank = grind (arith, nat_tests); comment = grind (arith, nat_tests); break = grind (arith, nat_tests); mark = grind (arith, nat_tests) }

-- no byte order mark
mark_none : (p : Place) → (first p == byte_order_mark) ≡ false → after_mark p ≡ p
mark_none p h = rw (h, and_right (p.mark.column == 0) false refl) refl

-- a gap line that ends at q
line_is : (tabs : Bool) (p q : Place) → (first p == byte_order_mark) ≡ false → after_run (is_gap_blank tabs) p ≡ q → (first q == 0x23) ≡ false → after_gap_line tabs p ≡ q
unfolding after_gap_line
line_is tabs p q m e h = ap (λ (r : Place). after_comment (after_run (is_gap_blank tabs) r)) (mark_none p m) ∙ ap after_comment e ∙ rw h refl

no_break : (p : Place) → is_break (first p) ≡ false → break_len p ≡ 0
no_break p h = grind (arith, nat_tests)

pub lines_none : (n : ℕ) (flow : Bool) (p : Place) → break_len p ≡ 0 → after_gap_lines n flow p ≡ p
unfolding after_gap_lines
lines_none zero flow p h = refl
lines_none (suc n) flow p h = rw h refl

-- a gap without a break
gap_in_line : (flow allowed : Bool) (p q : Place) → after_gap_line (flow || not allowed) p ≡ q → break_len q ≡ 0 → gap flow allowed p ≡ (q, false)
unfolding gap
gap_in_line flow allowed p q e h =
    let zero : nat_lt 0 (break_len q) ≡ false = rw h refl in
    rw e (λ i. (lines_none (length q.rest) flow q h i, zero i))

pub gap_none : (p : Place) → is_solid (first p) ≡ true → IsGap p p false
gap_none p h flow allowed =
    let s = solid_is (flow || not allowed) (first p) h in
    gap_in_line flow allowed p p (line_is (flow || not allowed) p p s.mark (after_none (is_gap_blank (flow || not allowed)) p s.blank) s.comment) (no_break p s.break)

pub gap_space : (p : Place) → first p ≡ 0x20 → is_solid (peek p 1) ≡ true → IsGap p (skip 1 p) false
gap_space p e h flow allowed =
    let tabs = flow || not allowed in
    let q = skip 1 p in
    let s = solid_is tabs (first q) (ap is_solid (first_on 1 p) ∙ h) in
    let mark : (first p == byte_order_mark) ≡ false = rw e refl in
    let blank : is_gap_blank tabs (first p) ≡ true = rw e refl in
    let run = (after_run_more (is_gap_blank tabs) p blank refl).1 ∙ after_none (is_gap_blank tabs) q s.blank in
    gap_in_line flow allowed p q (line_is tabs p q mark run s.comment) (no_break q s.break)

-- a run goes on after a run of fewer characters
run_on : (test more : ℕ → Bool) → ((c : ℕ) → test c ≡ true → more c ≡ true) → test 0 ≡ false → more 0 ≡ false → (fuel : ℕ) (p : Place) → length p.rest ≤ fuel → after_run more p ≡ after_run more (after_run test p)
run_on test more sub z y zero p l =
    elim (cases_Bool (test (first p))) [
      | inl t ↦ absurd (omega (arith, l, (after_run_more test p t z).0))
      | inr f ↦ ap (after_run more) (sym (after_none test p f))
    ]
run_on test more sub z y (suc fuel) p l =
    elim (cases_Bool (test (first p))) [
      | inl t ↦
          let a = after_run_more test p t z in
          let b = after_run_more more p (sub (first p) t) y in
          b.1 ∙ run_on test more sub z y fuel (skip 1 p) (omega (arith, l, a.0, length_one p)) ∙ ap (after_run more) (sym a.1)
      | inr f ↦ ap (after_run more) (sym (after_none test p f))
    ]

space_blank : (tabs : Bool) (c : ℕ) → class_test SPACE c ≡ true → is_gap_blank tabs c ≡ true
space_blank tabs c h = grind (arith, nat_tests)

-- the blanks of a gap line are spaces, and then what is left of them
pub blanks_on : (tabs : Bool) (p q : Place) → q ≡ after_run (class_test SPACE) p → after_run (is_gap_blank tabs) q ≡ after_run (is_gap_blank tabs) p
blanks_on tabs p q e = ap (after_run (is_gap_blank tabs)) e ∙ sym (run_on (class_test SPACE) (is_gap_blank tabs) (space_blank tabs) refl refl (length p.rest) p (omega arith))

space_no_mark : (p q : Place) → q ≡ after_run (class_test SPACE) p → is_solid (first q) ≡ true → (first p == byte_order_mark) ≡ false
space_no_mark p q e h =
    elim (cases_Bool (class_test SPACE (first p))) [
      | inl t ↦ grind (arith, nat_tests)
      | inr f ↦ let same : first q ≡ first p = ap (λ (r : Place). first r) (e ∙ after_none (class_test SPACE) p f) in (solid_is false (first p) (ap is_solid (sym same) ∙ h)).mark
    ]

break_apart : (tabs : Bool) (c : ℕ) → is_break c ≡ true → (is_gap_blank tabs c ≡ false) × ((c == 0x23) ≡ false) × ((c == byte_order_mark) ≡ false)
break_apart tabs c h = (grind (arith, nat_tests), grind (arith, nat_tests), grind (arith, nat_tests))

-- a break and spaces
pub gap_break : (p q : Place) → is_break (first p) ≡ true → q ≡ after_run (class_test SPACE) (skip (break_len p) p) → is_solid (first q) ≡ true → IsGap p q true
unfolding gap
gap_break p q e at h flow allowed =
    let tabs = flow || not allowed in
    let s = solid_is flow (first q) h in
    let r = skip (break_len p) p in
    let c = break_apart tabs (first p) e in
    let more : 0 < break_len p = is_break_len p e in
    let some : nat_lt 0 (break_len p) ≡ true = grind (arith, nat_tests) in
    let front = line_is tabs p p c.2 (after_none (is_gap_blank tabs) p c.0) c.1 in
    let run : after_run (is_gap_blank flow) r ≡ q =
    run_on (class_test SPACE) (is_gap_blank flow) (space_blank flow) refl refl (length r.rest) r (omega arith) ∙ ap (after_run (is_gap_blank flow)) (sym at) ∙ after_none (is_gap_blank flow) q s.blank in
    let next : next_line flow p ≡ q = line_is flow r q (space_no_mark r q at h) run s.comment in
    let n = length p.rest in
    let lines : after_gap_lines n flow p ≡ q =
    any_fuel n (suc n) flow p (omega arith) (omega arith) ∙ step n flow p more ∙ ap (after_gap_lines n flow) next ∙ lines_none n flow q (no_break q s.break) in
    rw front (λ i. (lines i, some i))

pub gap_feed : (p q : Place) → first p ≡ 0x0A → q ≡ after_run (class_test SPACE) (skip 1 p) → is_solid (first q) ≡ true → IsGap p q true
gap_feed p q e at h =
    let yes : is_break (first p) ≡ true = rw e refl in
    let one : break_len p ≡ 1 = rw e refl in
    gap_break p q yes (at ∙ ap (λ n. after_run (class_test SPACE) (skip n p)) (sym one)) h

-- ---- a gap line and its break at a time

stays_there : (p q : Place) → nat_lt 0 (break_len p) ≡ false → q ≡ past_break p → q ≡ p
stays_there p q h e = let none : break_len p ≡ 0 = grind (arith, nat_tests) in e ∙ ap (λ n. skip n p) none ∙ skip_none p

-- a gap line that no break ends is all of the gap
pub gap_alone : (flow allowed : Bool) (p q : Place) → nat_lt 0 (break_len (after_gap_line (flow || not allowed) p)) ≡ false → q ≡ past_break (after_gap_line (flow || not allowed) p) → (q, false) ≡ gap flow allowed p
gap_alone flow allowed p q h e =
    let line = after_gap_line (flow || not allowed) p in
    let none : break_len line ≡ 0 = grind (arith, nat_tests) in
    rw (stays_there line q h e) (sym (gap_in_line flow allowed p line refl none))

-- a gap line and its break bring the loop on
pub gap_goes : (flow : Bool) (p q first : Place) → nat_lt 0 (break_len (after_gap_line flow p)) ≡ true → q ≡ past_break (after_gap_line flow p) → Comes flow (after_gap_line flow p) first → (length q.rest < length p.rest) × Comes flow (after_gap_line flow q) first
gap_goes flow p q first h e so =
    let line = after_gap_line flow p in
    let some : 0 < break_len line = grind (arith, nat_tests) in
    rw e (omega (arith, within_line flow p, length_skip (break_len line) line, break_within line some), (line_goes flow line first some so).1)

-- the gap line that no break ends is the last one
pub gap_ends : (flow allowed : Bool) (p one q r : Place) → nat_lt 0 (break_len (after_gap_line (flow || not allowed) p)) ≡ true → one ≡ past_break (after_gap_line (flow || not allowed) p) → Comes flow (after_gap_line flow q) (after_gap_line flow one) → nat_lt 0 (break_len (after_gap_line flow q)) ≡ false → r ≡ past_break (after_gap_line flow q) → (r, true) ≡ gap flow allowed p
unfolding gap
gap_ends flow allowed p one q r h e so over f =
    let line = after_gap_line (flow || not allowed) p in
    let last = after_gap_line flow q in
    let some : 0 < break_len line = grind (arith, nat_tests) in
    let none : break_len last ≡ 0 = grind (arith, nat_tests) in
    let first : Comes flow (after_gap_line flow one) line = rw e (line_goes flow line line some refl).1 in
    let all = line_ends flow last line none (so ∙ first) in
    rw (h) (ap (λ (s : Place). (s, true)) (stays_there last r over f ∙ all))

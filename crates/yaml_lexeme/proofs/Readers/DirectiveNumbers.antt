-- The decimal digits of a version are read one by one.
use Rattle.std.proofs.Common.{◌≡◌, ℕ, ◌+◌, ◌*◌, ◌^◌, ◌<◌, ◌≤◌, true, false, ◌==◌, nat_lt, length, take, refl, sym, ap, ◌∙◌, arith, inl, inr, below_more, lt-ltb, le-ltb, ne_eqb}
use Rattle.std.proofs.lemmas.Bool.{cases_lt, true≢false}
use Rattle.std.proofs.Math.Nat.{pow-le-pow_right}
use Rattle.std.proofs.lemmas.Grind.{common_steps}
use Rattle.std.proofs.lemmas.Bool.Decides.{nat_tests}
use Rattle.std.proofs.lemmas.List.Sums.{prefix_len_is, prefix_len_stops}
use Rattle.std.proofs.lemmas.Int.Digits.{digits_value_more}
use Rattle.std.specs.Char.{digit_value}
use Rattle.std.specs.Str.Parse.{digits_value}
use Rattle.yaml_lexeme.specs.declared.problem.yaml_problem_t.TheVariants.{NO_NUMBER, LONG_NUMBER}
use Rattle.yaml_lexeme.proofs.Places.PlaceMoves.{is_there}
use Rattle.yaml_lexeme.specs.Directive.{number}
use Rattle.yaml_lexeme.specs.Place.{Place, peek, skip, run_len}
use Rattle.yaml_lexeme.specs.Reading.{Read, found, refuse}
use Rattle.yaml_text.specs.Classes.{is_digit}

-- the first k characters are digits of this value
pub record Digits (p : Place) (k value : ℕ) : Type 0 where
  pub within : k ≤ length p.rest
  pub all : (i : ℕ) → i < k → is_digit (peek p i) ≡ true
  pub same : value ≡ digits_value 10 (take k p.rest)
  pub below : value < 10 ^ k

digit_is : (c : ℕ) → digit_value c < 10 → is_digit c ≡ true
digit_is c h = grind (arith, nat_tests)

digit_not : (c : ℕ) → (digit_value c < 10 → ⊥) → is_digit c ≡ false
digit_not c h = grind (arith, nat_tests)

digit_there : (c : ℕ) → is_digit c ≡ true → 0 < c
digit_there c h = grind (arith, nat_tests)

one_more_power : (k : ℕ) → 10 ^ (k + 1) ≡ 10 ^ k * 10
one_more_power k = grind (arith, common_steps)

pub more_digits : (p : Place) (k value digit : ℕ) → digit < 10 → digit ≡ digit_value (peek p k) → Digits p k value → Digits p (k + 1) (value * 10 + digit)
more_digits p k value digit h e d =
    let low : digit_value (peek p k) < 10 = omega arith in
    let here : is_digit (peek p k) ≡ true = digit_is (peek p k) low in
    let there : k < length p.rest = is_there p k (digit_there (peek p k) here) in
    let power = one_more_power k in
    record {
      within = omega arith;
      all = below_more (λ (i : ℕ). is_digit (peek p i) ≡ true) k d.all here;
      same = rw (d.same, e) (sym (digits_value_more 10 p.rest k there));
      below = omega (arith, d.below);
    }

pub fits_digits : (p : Place) (k value digit : ℕ) → k < 9 → digit < 10 → Digits p k value → value * 10 + digit < 2 ^ 32
fits_digits p k value digit l b d =
    let low : 10 ^ k ≤ 10 ^ 8 = pow-le-pow_right (omega arith) {i = k} {j = 8} (omega arith) in
    omega (arith, d.below)

run_is : (p : Place) (k value : ℕ) → is_digit (peek p k) ≡ false → Digits p k value → run_len is_digit p ≡ k
run_is p k value h d = prefix_len_is is_digit p.rest k 0 d.within d.all (λ l. h)

pub no_number : (p : Place) (k value : ℕ) → k ≡ 0 → (digit_value (peek p k) < 10 → ⊥) → Digits p k value → number p ≡ refuse NO_NUMBER p
unfolding number
no_number p k value z h d =
    let len : run_len is_digit p ≡ 0 = run_is p k value (digit_not (peek p k) h) d ∙ z in
    rw len refl

number_at : (p : Place) (k value : ℕ) → 0 < k → k ≤ 9 → is_digit (peek p k) ≡ false → Digits p k value → number p ≡ found value (skip k p)
unfolding number
number_at p k value some most h d =
    let len : run_len is_digit p ≡ k = run_is p k value h d in
    let a : (k == 0) ≡ false = ne_eqb k 0 (λ e. omega arith) in
    let b : nat_lt 9 k ≡ false = le-ltb 9 k most in
    rw (len, a, b, ← d.same) refl

pub a_number : (p : Place) (k value : ℕ) → (k ≡ 0 → ⊥) → k < 9 → (digit_value (peek p k) < 10 → ⊥) → Digits p k value → number p ≡ found value (skip k p)
a_number p k value some most h d = number_at p k value (omega arith) (omega arith) (digit_not (peek p k) h) d

pub nine_digits : (p : Place) (k value : ℕ) → k ≡ 9 → is_digit (peek p 9) ≡ false → Digits p k value → number p ≡ found value (skip 9 p)
nine_digits p k value e h d = number_at p k value (omega arith) (omega arith) (ap (λ (i : ℕ). is_digit (peek p i)) e ∙ h) d ∙ ap (λ (i : ℕ). found value (skip i p)) e

pub ten_digits : (p : Place) (k value : ℕ) → k ≡ 9 → is_digit (peek p 9) ≡ true → Digits p k value → number p ≡ refuse LONG_NUMBER (skip 9 p)
unfolding number
ten_digits p k value e h d =
    let n = run_len is_digit p in
    let there : 9 < length p.rest = is_there p 9 (digit_there (peek p 9) h) in
    let all = below_more (λ (i : ℕ). is_digit (peek p i) ≡ true) 9 (λ i l. d.all i (omega arith)) h in
    elim (cases_lt 9 n) [
      | inl long ↦
          let a : (n == 0) ≡ false = ne_eqb n 0 (λ e. omega arith) in
          let b : nat_lt 9 n ≡ true = lt-ltb 9 n long in
          rw (a, b) refl
      | inr short ↦ absurd (true≢false (sym (all n (omega arith)) ∙ prefix_len_stops is_digit p.rest 0 (omega arith)))
    ]

-- the same, from where the cursor began
pub at_start : (start p : Place) (r : Read ℕ) → p ≡ start → number p ≡ r → number start ≡ r
at_start start p r e h = ap number (sym e) ∙ h

pub small : (p : Place) (k value : ℕ) → k ≤ 9 → Digits p k value → value < 10 ^ 9
small p k value l d =
    let low : 10 ^ k ≤ 10 ^ 9 = pow-le-pow_right (omega arith) {i = k} {j = 9} l in
    omega (arith, d.below)

-- The hexadecimal digits of an escape are read one by one.
use Rattle.std.proofs.Common.{◌≡◌, ℕ, ◌+◌, ◌*◌, ◌^◌, ◌<◌, ◌≤◌, true, false, ◌==◌, length, take, get_or, refl, sym, ◌∙◌, arith, eq-eqb, ne_eqb, inl, inr, get_or-take, length-take}
use Rattle.std.proofs.lemmas.Bool.{cases_lt, and_right}
use Rattle.std.proofs.Math.Nat.{pow-le-pow_right}
use Rattle.std.proofs.lemmas.Grind.{common_steps}
use Rattle.std.proofs.lemmas.Bool.Decides.{nat_tests}
use Rattle.std.proofs.lemmas.List.{length-take-le}
use Rattle.std.proofs.lemmas.List.Folds.{list_all_more, list_all_at}
use Rattle.std.proofs.lemmas.Int.Digits.{digits_value_more}
use Rattle.std.specs.Char.{digit_value}
use Rattle.std.specs.List.{list_all}
use Rattle.std.specs.Str.Parse.{digits_value}
use Rattle.yaml_lexeme.specs.declared.problem.yaml_problem_t.TheVariants.{NO_HEX_DIGIT, NO_SCALAR_VALUE}
use Rattle.yaml_lexeme.proofs.Places.PlaceMoves.{is_there}
use Rattle.yaml_lexeme.specs.Escape.{hex_escape}
use Rattle.yaml_text.specs.Utf8.{is_scalar}
use Rattle.yaml_lexeme.specs.Place.{Place, peek, skip}
use Rattle.yaml_lexeme.specs.Reading.{found, refuse}
use Rattle.yaml_text.specs.Classes.{is_hex, is_break}

-- the first k characters are hex digits of this value
pub record Digits (p : Place) (k value : ℕ) : Type 0 where
  pub within : k ≤ length p.rest
  pub all : list_all is_hex (take k p.rest) ≡ true
  pub same : value ≡ digits_value 16 (take k p.rest)
  pub below : value < 16 ^ k

hex_is : (c : ℕ) → digit_value c < 16 → is_hex c ≡ true
hex_is c h = grind (arith, nat_tests)

hex_not : (c : ℕ) → (digit_value c < 16 → ⊥) → is_hex c ≡ false
hex_not c h = grind (arith, nat_tests)

digit_is_there : (c : ℕ) → digit_value c < 16 → 0 < c
digit_is_there c h = grind (arith, nat_tests)

pub digit_passes : (c : ℕ) → digit_value c < 16 → record { some : 0 < c; ascii : c < 128; inside : is_break c ≡ false }
digit_passes c h = record { some = digit_is_there c h; ascii = grind (arith, nat_tests); inside = grind (arith, nat_tests) }

one_more_power : (k : ℕ) → 16 ^ (k + 1) ≡ 16 ^ k * 16
one_more_power k = grind (arith, common_steps)

pub more_digits : (p : Place) (k value digit : ℕ) → digit < 16 → digit ≡ digit_value (peek p k) → Digits p k value → Digits p (k + 1) (value * 16 + digit)
more_digits p k value digit h e d =
    let low : digit_value (peek p k) < 16 = omega arith in
    let there : k < length p.rest = is_there p k (digit_is_there (peek p k) low) in
    let hex : is_hex (peek p k) ≡ true = hex_is (peek p k) low in
    let power = one_more_power k in
    record {
      within = omega arith;
      all = list_all_more is_hex p.rest k 0 there ∙ rw (d.all, hex) refl;
      same = rw (d.same, e) (sym (digits_value_more 16 p.rest k there));
      below = omega (arith, d.below);
    }

pub fits_digits : (p : Place) (k n value digit : ℕ) → n ≤ 8 → k < n → digit < 16 → Digits p k value → value * 16 + digit < 2 ^ 32
fits_digits p k n value digit h l b d =
    let low : 16 ^ k ≤ 16 ^ 7 = pow-le-pow_right (omega arith) {i = k} {j = 7} (omega arith) in
    omega (arith, d.below)

pub no_digit : (p : Place) (k n value : ℕ) → k < n → n ≤ 8 → (digit_value (peek p k) < 16 → ⊥) → Digits p k value → hex_escape n p ≡ refuse NO_HEX_DIGIT p
unfolding hex_escape
no_digit p k n value l h none d =
    let ds = take n p.rest in
    elim (cases_lt k (length p.rest)) [
      | inl within ↦
          let inside : k < length ds = omega (arith, length-take n p.rest) in
          let same : get_or ds k 0 ≡ peek p k = get_or-take n p.rest k 0 l in
          let fails : is_hex (get_or ds k 0) ≡ false = rw same (hex_not (peek p k) none) in
          let some = list_all_at is_hex ds k 0 inside fails in
          rw (and_right (length ds == n) (list_all is_hex ds) some) refl
      | inr past ↦
          let short : (length ds == n) ≡ false = ne_eqb _ _ (λ e. omega (arith, length-take n p.rest)) in
          rw short refl
    ]

pub no_scalar : (p : Place) (n value : ℕ) → is_scalar value ≡ false → Digits p n value → hex_escape n p ≡ refuse NO_SCALAR_VALUE p
unfolding hex_escape
no_scalar p n value h d =
    let len : length (take n p.rest) ≡ n = length-take-le n p.rest d.within in
    let same : (n == n) ≡ true = eq-eqb n n refl in
    rw (len, same, d.all, ← d.same, h) refl

pub a_scalar : (p : Place) (n value : ℕ) → is_scalar value ≡ true → Digits p n value → hex_escape n p ≡ found value (skip n p)
unfolding hex_escape
a_scalar p n value h d =
    let len : length (take n p.rest) ≡ n = length-take-le n p.rest d.within in
    let same : (n == n) ≡ true = eq-eqb n n refl in
    rw (len, same, d.all, ← d.same, h) refl

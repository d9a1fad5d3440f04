use Rattle.std.proofs.Common.{◌≡◌, ℕ, refl, subst, arith, ◌∙◌, ap, sym}
use Rattle.std.proofs.lemmas.Bool.Decides.{nat_tests}
use Rattle.yaml_lexeme.specs.Place.{Place, peek, skip}
use Rattle.yaml_lexeme.proofs.Places.PlaceMoves.{skip_none, skip_skip, first_on}
use Rattle.yaml_lexeme.proofs.Readers.EscapeDigits.{Digits, digit_passes, more_digits, fits_digits, no_digit, no_scalar, a_scalar}
use Rattle.yaml_lexeme.proofs.escape.take_hex_escape.Goals as goal

pub digits-init : goal.digits-init
digits-init c = (record { within = omega arith; all = refl; same = refl; below = omega arith }, c.again-at.ensures ∙ sym (skip_none c.args.cursor.now))

pub returns-in_default : goal.returns-in_default
returns-in_default c =
    let d = c.digits in
    let here : c.peek.result ≡ peek c.args.cursor.now d.k = c.peek.ensures ∙ ap (λ (x : Place). peek x 0) d.invariant.1 ∙ first_on d.k c.args.cursor.now in
    rw c.offence.ensures (no_digit c.args.cursor.now d.k c.args.n d.value c.digits-test.true c.requires (rw here at c.in_default.ensures.value) d.invariant.0)

pub overflow_mul-value : goal.overflow_mul-value
overflow_mul-value c =
    let d = c.digits in
    omega (arith, fits_digits c.args.cursor.now d.k c.args.n d.value 0 c.requires c.digits-test.true (omega arith) d.invariant.0)

pub overflow_add-value : goal.overflow_add-value
overflow_add-value c =
    let d = c.digits in
    omega (arith, fits_digits c.args.cursor.now d.k c.args.n d.value c.in-Some.digit c.requires c.digits-test.true (omega (arith, c.in-Some.ensures.value.0, c.in-Some.ensures.value.1)) d.invariant.0)

pub pass-requires : goal.pass-requires
pass-requires c = digit_passes (peek c.digits.at 0) (rw c.peek.ensures at c.in-Some.ensures.value.0)

pub digits-preserved : goal.digits-preserved
digits-preserved c =
    let d = c.digits in
    let p = c.args.cursor.now in
    let here : c.peek.result ≡ peek c.args.cursor.now d.k = c.peek.ensures ∙ ap (λ (x : Place). peek x 0) d.invariant.1 ∙ first_on d.k c.args.cursor.now in
    let next = c.pass.ensures ∙ ap (λ (x : Place). skip 1 x) d.invariant.1 ∙ skip_skip d.k 1 p in
    (more_digits p d.k d.value c.in-Some.digit (omega (arith, c.in-Some.ensures.value.0, c.in-Some.ensures.value.1)) (rw here at c.in-Some.ensures.value.1) d.invariant.0, next)

pub returns-in_default-from_u32 : goal.returns-in_default-from_u32
returns-in_default-from_u32 c =
    let d = c.digits in
    let all : d.k ≡ c.args.n = omega (arith, d.auto.k-end) in
    rw c.offence-in_default-from_u32.ensures (no_scalar c.args.cursor.now c.args.n d.value (grind (arith, nat_tests)) (subst (λ (k : ℕ). Digits c.args.cursor.now k d.value) all d.invariant.0))

pub returns : goal.returns
returns c =
    let d = c.digits in
    let all : d.k ≡ c.args.n = omega (arith, d.auto.k-end) in
    let end : d.at ≡ skip c.args.n c.args.cursor.now = d.invariant.1 ∙ ap (λ i. skip i c.args.cursor.now) all in
    let same : c.in-Some-from_u32.c ≡ d.value = c.in-Some-from_u32.ensures.value.1 in
    rw (end, same) (a_scalar c.args.cursor.now c.args.n d.value (grind (arith, nat_tests)) (subst (λ (k : ℕ). Digits c.args.cursor.now k d.value) all d.invariant.0))

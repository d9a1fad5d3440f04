use Rattle.std.proofs.Common.{◌≡◌, true, false, refl, sym, ap, ◌∙◌, arith}
use Rattle.yaml_lexeme.proofs.Readers.DirectiveNumbers.{more_digits, small, fits_digits, no_number, a_number, nine_digits, ten_digits, at_start}
use Rattle.yaml_lexeme.specs.Place.{peek}
use Rattle.yaml_text.specs.Classes.{is_digit}
use Rattle.yaml_lexeme.proofs.directive.take_number.Goals as goal

pub digits-init : goal.digits-init
digits-init c = (record { within = omega arith; all = λ i l. absurd (omega arith); same = refl; below = omega arith }, refl)

pub returns-then-k-eq0-clause-value : goal.returns-then-k-eq0-clause-value
returns-then-k-eq0-clause-value c =
    let d = c.digits in
    rw c.offence.ensures (at_start c.args.cursor.now d.cursor _ d.invariant.1 (no_number d.cursor d.k d.value c.if-k-eq0.true (rw c.peek.ensures at c.in_default.ensures.value) d.invariant.0))

pub returns-in_default-clause-value : goal.returns-in_default-clause-value
returns-in_default-clause-value c =
    let d = c.digits in
    rw c.skip.ensures (at_start c.args.cursor.now d.cursor _ d.invariant.1 (a_number d.cursor d.k d.value c.if-k-eq0.false c.digits-test.true (rw c.peek.ensures at c.in_default.ensures.value) d.invariant.0))

pub overflow_mul-value : goal.overflow_mul-value
overflow_mul-value c =
    let d = c.digits in
    omega (arith, fits_digits d.cursor d.k d.value 0 c.digits-test.true (omega arith) d.invariant.0)

pub overflow_add-value : goal.overflow_add-value
overflow_add-value c =
    let d = c.digits in
    omega (arith, fits_digits d.cursor d.k d.value c.in-Some.digit c.digits-test.true (omega (arith, c.in-Some.ensures.value.0, c.in-Some.ensures.value.1)) d.invariant.0)

pub digits-preserved : goal.digits-preserved
digits-preserved c =
    let d = c.digits in
    (more_digits d.cursor d.k d.value c.in-Some.digit (omega (arith, c.in-Some.ensures.value.0, c.in-Some.ensures.value.1)) (rw c.peek.ensures at c.in-Some.ensures.value.1) d.invariant.0, d.invariant.1)

pub returns-then-long-clause-value : goal.returns-then-long-clause-value
returns-then-long-clause-value c =
    let d = c.digits in
    let all : d.k ≡ 9 = omega (arith, d.auto.k-end) in
    let long : is_digit (peek d.cursor 9) ≡ true = ap is_digit (sym c.peek-2.ensures) ∙ sym c.is_digit-long.ensures ∙ c.if-long.true in
    rw (c.offence-then-long.ensures, c.skip-2.ensures) (at_start c.args.cursor.now d.cursor _ d.invariant.1 (ten_digits d.cursor d.k d.value all long d.invariant.0))

pub returns-clause-value : goal.returns-clause-value
returns-clause-value c =
    let d = c.digits in
    let all : d.k ≡ 9 = omega (arith, d.auto.k-end) in
    let fine : is_digit (peek d.cursor 9) ≡ false = ap is_digit (sym c.peek-2.ensures) ∙ sym c.is_digit-long.ensures ∙ c.if-long.false in
    rw c.skip-2.ensures (at_start c.args.cursor.now d.cursor _ d.invariant.1 (nine_digits d.cursor d.k d.value all fine d.invariant.0))

pub returns-in_default-clause-small : goal.returns-in_default-clause-small
returns-in_default-clause-small c = let d = c.digits in small d.cursor d.k d.value (omega arith) d.invariant.0

pub returns-clause-small : goal.returns-clause-small
returns-clause-small c = let d = c.digits in small d.cursor d.k d.value (omega (arith, d.auto.k-end)) d.invariant.0

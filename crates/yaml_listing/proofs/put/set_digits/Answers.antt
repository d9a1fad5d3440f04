-- Four digits after four, from the last to the first.
use Rattle.std.proofs.Common.{◌≡◌, ◌+◌, ◌-◌, ◌/◌, ◌%◌, ◌^◌, ◌<◌, ◌≤◌, ◌++◌, ◌∷◌, ℕ, List, length, drop}
use Rattle.std.proofs.Common.{refl, ap, sym, ◌∙◌, arith}
use Rattle.std.specs.Fmt.{decimal}
use Rattle.std.proofs.lemmas.Fmt.{decimal_nonempty, length-decimal-le}
use Rattle.yaml_listing.proofs.Digits.{digits_room, four_more, length_more}
use Rattle.yaml_listing.proofs.put.set_digits.Goals as goal

pub digits-init : goal.digits-init
digits-init c = record {
  within = omega arith;
  room = omega (arith, length-decimal-le 20 c.args.number (omega arith) (omega arith) c.ranges.number.fits);
  fits = c.ranges.number.fits;
  written = refl;
}

-- there are at least three digits, and so room for four
four_fit : (left at end : ℕ) → 10000 ≤ left → left < 2 ^ 64 → 21 ≤ end → end + length (decimal left) ≤ at + 20
    → 4 ≤ at
four_fit left at end some fits low room =
    let rest : left / 100 < 2 ^ 64 = omega (arith, fits) in
    omega (arith, room, low, length_more left (omega (arith, some)) fits, decimal_nonempty (left / 100) rest)

pub set_pair-requires-clause-room : goal.set_pair-requires-clause-room
set_pair-requires-clause-room c =
    let i = c.digits.invariant in
    omega (arith, four_fit c.digits.left c.digits.at c.args.end c.digits-test.true i.fits c.requires.room i.room)

pub set_pair-requires-in-digits-clause-room : goal.set_pair-requires-in-digits-clause-room
set_pair-requires-in-digits-clause-room c =
    let i = c.digits.invariant in
    omega (arith, four_fit c.digits.left c.digits.at c.args.end c.digits-test.true i.fits c.requires.room i.room)

pub digits-preserved : goal.digits-preserved
digits-preserved c =
    let i = c.digits.invariant in
    let left = c.digits.left in
    let at = c.digits.at in
    let before = c.args.buffer.now in
    let after = c.set_pair-in-digits.new.buffer in
    let fits : left / 10000 < 2 ^ 64 = omega (arith, i.fits) in
    let within : at - 4 ≤ c.args.end = omega (arith, i.within) in
    let place : at - 2 - 2 ≡ at - 4 = omega arith in
    let same : length after ≡ length before =
    c.set_pair-in-digits.auto.buffer ∙ c.set_pair.auto.buffer ∙ c.digits.auto.buffer in
    let four = left % 10000 in
    let written : decimal (left / 10000) ++ drop (at - 4) after ≡ decimal c.args.number ++ drop c.args.end before =
    sym (ap (λ (n : ℕ). decimal (left / 10000) ++ drop n after) place)
    ∙ ap (λ (z : List ℕ). decimal (left / 10000) ++ z) c.set_pair-in-digits.ensures.digits
    ∙ ap (λ (z : List ℕ). decimal (left / 10000) ++ ((48 + four / 100 / 10) ∷ (48 + four / 100 % 10) ∷ z))
    c.set_pair.ensures.digits
    ∙ four_more left (drop at c.digits.buffer) c.digits-test.true i.fits ∙ i.written in
    record {
      within = within;
      room = digits_room (left / 10000) c.args.number (at - 4) c.args.end after before c.ranges.number.fits
          within c.requires.within same written;
      fits = fits;
      written = written;
    }

-- Two digits before two, or two alone.
use Rattle.std.proofs.Common.{◌<◌, ◌^◌, ◌++◌, ◌/◌, ℕ, List, drop, ap, ◌∙◌, arith}
use Rattle.std.specs.Fmt.{decimal}
use Rattle.std.proofs.lemmas.Fmt.{decimal_nonempty}
use Rattle.yaml_listing.proofs.Digits.{pair_more, length_more}
use Rattle.yaml_listing.proofs.put.set_front.Goals as goal

pub set_pair-requires-clause-room : goal.set_pair-requires-clause-room
set_pair-requires-clause-room c =
    omega (arith, c.requires.room, decimal_nonempty c.args.number c.ranges.number.fits)

pub set_first_digits-requires-clause-room : goal.set_first_digits-requires-clause-room
set_first_digits-requires-clause-room c =
    let n = c.args.number in
    let fits : n / 100 < 2 ^ 64 = omega (arith, c.ranges.number.fits) in
    omega (
      arith,
      c.requires.room,
      length_more n c.if-number-ge100.true c.ranges.number.fits,
      decimal_nonempty (n / 100) fits,
    )

pub set_first_digits-requires-else-number-ge100-clause-room : goal.set_first_digits-requires-else-number-ge100-clause-room
set_first_digits-requires-else-number-ge100-clause-room c =
    omega (arith, c.requires.room, decimal_nonempty c.args.number c.ranges.number.fits)

pub returns-then-number-ge100-clause-digits : goal.returns-then-number-ge100-clause-digits
returns-then-number-ge100-clause-digits c =
    let n = c.args.number in
    c.set_first_digits.ensures.digits
    ∙ ap (λ (z : List ℕ). decimal (n / 100) ++ z) c.set_pair.ensures.digits
    ∙ pair_more n (drop c.args.end c.args.buffer.now) c.if-number-ge100.true c.ranges.number.fits

pub returns-then-number-ge100-clause-place : goal.returns-then-number-ge100-clause-place
returns-then-number-ge100-clause-place c =
    let n = c.args.number in
    omega (
      arith,
      c.requires.room,
      c.set_first_digits.ensures.place,
      length_more n c.if-number-ge100.true c.ranges.number.fits,
    )

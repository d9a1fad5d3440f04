-- One digit or two.
use Rattle.std.proofs.Common.{◌≡◌, ◌++◌, ℕ, List, length, drop, ap, sym, ◌∙◌, arith}
use Rattle.std.specs.Fmt.{decimal}
use Rattle.std.proofs.lemmas.Fmt.{decimal_digit}
use Rattle.yaml_listing.proofs.Digits.{pair_whole, digit_whole}
use Rattle.yaml_listing.proofs.put.set_first_digits.Goals as goal

pub returns-then-number-ge10-clause-digits : goal.returns-then-number-ge10-clause-digits
returns-then-number-ge10-clause-digits c =
    let rest = drop c.args.end c.args.buffer.now in
    c.set_pair.ensures.digits
    ∙ ap (λ (z : List ℕ). z ++ rest) (sym (pair_whole c.args.number c.if-number-ge10.true c.requires.small))

pub returns-then-number-ge10-clause-place : goal.returns-then-number-ge10-clause-place
returns-then-number-ge10-clause-place c =
    let two : length (decimal c.args.number) ≡ 2 =
    ap length (pair_whole c.args.number c.if-number-ge10.true c.requires.small) in
    omega (arith, two, c.requires.room)

pub returns-else-number-ge10-clause-digits : goal.returns-else-number-ge10-clause-digits
returns-else-number-ge10-clause-digits c =
    digit_whole c.args.number c.args.end c.set_pair.new.buffer (drop c.args.end c.args.buffer.now)
    c.if-number-ge10.false c.requires.room c.set_pair.ensures.digits

pub returns-else-number-ge10-clause-place : goal.returns-else-number-ge10-clause-place
returns-else-number-ge10-clause-place c =
    let one : length (decimal c.args.number) ≡ 1 = ap length (decimal_digit c.args.number c.if-number-ge10.false) in
    omega (arith, one, c.requires.room)

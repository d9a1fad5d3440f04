-- Two digits after one or two.
use Rattle.std.proofs.Common.{◌++◌, ◌/◌, ◌%◌, ℕ, List, take, ap, ◌∙◌}
use Rattle.std.specs.Fmt.{decimal}
use Rattle.yaml_listing.specs.inside.Put.{pair_text}
use Rattle.yaml_listing.proofs.Digits.{pair_last}
use Rattle.yaml_listing.proofs.Placed.{then_placed}
use Rattle.yaml_listing.proofs.put.set_decimal.Goals as goal

pub returns-then-number-lt10000-clause-text : goal.returns-then-number-lt10000-clause-text
returns-then-number-lt10000-clause-text c =
    let n = c.args.number in
    let at = c.args.at in
    let b = c.args.buffer.now in
    then_placed at c.set_small-end.result c.set_two.result b c.set_small-end.new.buffer c.set_two.new.buffer
    (decimal (n / 100)) (pair_text (n % 100)) c.set_small-end.ensures.text c.set_two.ensures.text
    ∙ ap (λ (z : List ℕ). take at b ++ z) (pair_last n c.if-number-lt100.false c.ranges.number.fits)

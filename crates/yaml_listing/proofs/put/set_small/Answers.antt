-- One digit or two.
use Rattle.std.proofs.Common.{◌++◌, ◌+◌, ◌<◌, ℕ, List, length, take, sym, ap, ◌∙◌, arith}
use Rattle.std.proofs.lemmas.Fmt.{decimal_digit}
use Rattle.std.proofs.lemmas.List.{take_more_set}
use Rattle.yaml_listing.proofs.Digits.{pair_whole}
use Rattle.yaml_listing.proofs.put.set_small.Goals as goal

pub returns-then-number-ge10-clause-text : goal.returns-then-number-ge10-clause-text
returns-then-number-ge10-clause-text c =
    let n = c.args.number in
    c.set_two.ensures.text
    ∙ ap (λ (z : List ℕ). take c.args.at c.args.buffer.now ++ z)
    (sym (pair_whole n c.if-number-ge10.true c.requires.small))

pub returns-clause-text : goal.returns-clause-text
returns-clause-text c =
    let n = c.args.number in
    let b = c.args.buffer.now in
    let within : c.args.at < length b = omega (arith, c.requires.room) in
    take_more_set b c.args.at (48 + n) within
    ∙ ap (λ (z : List ℕ). take c.args.at b ++ z) (sym (decimal_digit n c.if-number-ge10.false))

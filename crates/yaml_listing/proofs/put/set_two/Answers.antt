use Rattle.std.proofs.Common.{◌+◌, ◌/◌, ◌%◌, drop}
use Rattle.yaml_listing.proofs.Placed.{two_placed}
use Rattle.yaml_listing.proofs.put.set_two.Goals as goal

pub returns-clause-text : goal.returns-clause-text
returns-clause-text c =
    let n = c.args.number in
    let at = c.args.at in
    let b = c.args.buffer.now in
    two_placed at (48 + n / 10) (48 + n % 10) b c.set_pair.new.buffer (drop (at + 2) b)
    c.set_pair.ensures.front c.set_pair.ensures.digits

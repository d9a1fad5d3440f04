use Rattle.std.proofs.Common.{◌≡◌, [], length, nat_eq, refl}
use Rattle.yaml_scan.specs.Fed.{comes, new_fed}
use Rattle.yaml_scan.proofs.RunningCalls.FedGives.{more_comes}
use Rattle.testbench.proofs.pieces.feed_t.new.Goals as goal

pub returns-clause-fed : goal.returns-clause-fed
returns-clause-fed c =
    let p = new_fed c.args.start.setting c.args.start.limit in
    let last = nat_eq 0 (length c.args.start.input.now) in
    (comes p [] last, refl, refl, more_comes p c.new.result [] last refl c.new.ensures)

use Rattle.std.proofs.Common.{[]}
use Rattle.yaml_listing.proofs.WordFaults.{two_spell}
use Rattle.yaml_listing.proofs.word_fault.fault_of_two.Goals as goal

pub returns-in-Some-clause-some : goal.returns-in-Some-clause-some
returns-in-Some-clause-some c = c.in-Some.ensures.some []

pub returns-in_default-command-clause-none : goal.returns-in_default-command-clause-none
returns-in_default-command-clause-none c =
    let start = c.in_default.ensures.none in
    two_spell c.args.command.now c.args.setting.now start.0 start.1 c.in_default-command.not-calls

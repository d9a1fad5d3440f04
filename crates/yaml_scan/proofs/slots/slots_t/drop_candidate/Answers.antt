use Rattle.std.proofs.Common.{rules}
use Rattle.yaml_scan.proofs.slots.slots_t.drop_candidate.Goals as goal

pub returns-else-not-waits-clause-outer : goal.returns-else-not-waits-clause-outer
returns-else-not-waits-clause-outer c = search rules

pub returns-else-not-waits-clause-top : goal.returns-else-not-waits-clause-top
returns-else-not-waits-clause-top c = search rules

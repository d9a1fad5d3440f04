use Rattle.std.proofs.Common.{rules}
use Rattle.yaml_scan.proofs.follower.has_known_slot.Goals as goal

pub returns-else-read-clause-none : goal.returns-else-read-clause-none
returns-else-read-clause-none c = search rules

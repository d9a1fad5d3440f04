use Rattle.std.proofs.Common.{rules}
use Rattle.yaml_scan.proofs.step.has_room.Goals as goal

pub returns-then-len-capacity-2 : goal.returns-then-len-capacity-2
returns-then-len-capacity-2 c = search rules

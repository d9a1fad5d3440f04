use Rattle.std.proofs.Common.{rules}
use Rattle.yaml_scan.proofs.slots.root_at.Goals as goal

pub returns-then-in_flow : goal.returns-then-in_flow
returns-then-in_flow c = search rules

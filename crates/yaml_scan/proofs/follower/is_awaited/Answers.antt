use Rattle.std.proofs.Common.{rules}
use Rattle.yaml_scan.proofs.follower.is_awaited.Goals as goal

pub returns-then-state : goal.returns-then-state
returns-then-state c = search rules

use Rattle.std.proofs.Common.{rules}
use Rattle.yaml_scan.proofs.queue.queue_t.is_bare.Goals as goal

pub returns-in-NOTHING : goal.returns-in-NOTHING
returns-in-NOTHING c = search rules

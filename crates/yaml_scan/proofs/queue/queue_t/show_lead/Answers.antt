use Rattle.std.proofs.Common.{rules}
use Rattle.yaml_scan.proofs.queue.queue_t.show_lead.Goals as goal

pub returns-else-has_lead : goal.returns-else-has_lead
returns-else-has_lead c = search rules

use Rattle.std.proofs.Common.{rules}
use Rattle.yaml_scan.proofs.allowed.is_allowed_after.Goals as goal

pub returns-in-FLOW_SEQUENCE_START : goal.returns-in-FLOW_SEQUENCE_START
returns-in-FLOW_SEQUENCE_START c = search rules

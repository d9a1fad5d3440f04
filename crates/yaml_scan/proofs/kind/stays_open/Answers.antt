use Rattle.std.proofs.Common.{rules}
use Rattle.yaml_scan.proofs.kind.stays_open.Goals as goal

pub returns-else-not-is_closer : goal.returns-else-not-is_closer
returns-else-not-is_closer c = search rules

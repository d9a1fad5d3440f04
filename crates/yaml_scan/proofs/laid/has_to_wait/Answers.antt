use Rattle.std.proofs.Common.{rules}
use Rattle.yaml_scan.proofs.laid.has_to_wait.Goals as goal

pub returns-else-state-gt0-clause-awaited : goal.returns-else-state-gt0-clause-awaited
returns-else-state-gt0-clause-awaited c = search rules

use Rattle.std.proofs.Common.{rules}
use Rattle.yaml_scan.proofs.kind.problem.Goals as goal

pub returns-in-KEY : goal.returns-in-KEY
returns-in-KEY c = search rules

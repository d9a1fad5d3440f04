use Rattle.std.proofs.Common.{rules}
use Rattle.yaml_scan.proofs.stop.keep_nearest.Goals as goal

pub returns : goal.returns
returns g c = search rules

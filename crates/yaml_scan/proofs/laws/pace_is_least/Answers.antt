use Rattle.yaml_scan.proofs.Course.StepsNeeded as laws
use Rattle.yaml_scan.proofs.laws.pace_is_least.Goals as goal

pub returns : goal.returns
returns c = record { settles = laws.pace_settles; least = laws.pace_is_least }

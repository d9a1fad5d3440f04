use Rattle.yaml_scan.proofs.RunningCalls.LongerText as laws
use Rattle.yaml_scan.proofs.laws.running_scanner_goes_on.Goals as goal

pub returns : goal.returns
returns c = laws.running_goes_on

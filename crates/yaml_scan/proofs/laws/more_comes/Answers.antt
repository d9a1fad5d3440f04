use Rattle.yaml_scan.proofs.RunningCalls.FedGives as laws
use Rattle.yaml_scan.proofs.laws.more_comes.Goals as goal

pub returns : goal.returns
returns c = laws.more_comes

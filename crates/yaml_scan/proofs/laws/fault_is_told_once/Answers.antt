use Rattle.yaml_scan.proofs.SessionCalls.OneFault as laws
use Rattle.yaml_scan.proofs.laws.fault_is_told_once.Goals as goal

pub returns : goal.returns
returns c = record { sessions = laws.fault_is_told_once; runs = laws.runs_fault_once }

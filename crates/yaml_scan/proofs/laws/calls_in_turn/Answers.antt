use Rattle.yaml_scan.proofs.SessionCalls.CallByCall as laws
use Rattle.yaml_scan.proofs.laws.calls_in_turn.Goals as goal

pub returns : goal.returns
returns c = record { session = laws.calls_are_session }

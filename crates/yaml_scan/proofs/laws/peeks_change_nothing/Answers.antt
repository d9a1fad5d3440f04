use Rattle.yaml_scan.proofs.SessionCalls.SessionTokens as laws
use Rattle.yaml_scan.proofs.laws.peeks_change_nothing.Goals as goal

pub returns : goal.returns
returns c = laws.peeks_change_nothing

use Rattle.yaml_scan.proofs.SessionCalls.CutsAndCalls as laws
use Rattle.yaml_scan.proofs.laws.cuts_do_not_matter.Goals as goal

pub returns : goal.returns
returns c = laws.cuts_do_not_matter

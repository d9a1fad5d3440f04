use Rattle.yaml_scan.proofs.TokenList.OneLexemeMore as laws
use Rattle.yaml_scan.proofs.laws.never_revised.Goals as goal

pub returns : goal.returns
returns c = laws.never_revised

use Rattle.yaml_scan.proofs.TokenList.OneLexemeMore as laws
use Rattle.yaml_scan.proofs.laws.all_is_handed_out.Goals as goal

pub returns : goal.returns
returns c = laws.all_is_handed_out

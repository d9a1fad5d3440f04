use Rattle.yaml_scan.proofs.TokenList.OneLexemeMore as laws
use Rattle.yaml_scan.proofs.laws.lexemes_come_in_order.Goals as goal

pub returns : goal.returns
returns c = laws.lexemes_come_in_order

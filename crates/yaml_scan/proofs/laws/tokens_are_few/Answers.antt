use Rattle.yaml_scan.proofs.TokenList.GroupSizes as laws
use Rattle.yaml_scan.proofs.laws.tokens_are_few.Goals as goal

pub returns : goal.returns
returns c = laws.four_tokens_a_step

use Rattle.yaml_scan.proofs.TokenList.OneLexemeMore.{few_wait, few_wait_one_step_on}
use Rattle.yaml_scan.proofs.laws.few_lexemes_wait.Goals as goal

pub returns : goal.returns
returns c = record { settled = few_wait; one_step_on = few_wait_one_step_on }

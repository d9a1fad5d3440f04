use Rattle.yaml_scan.proofs.TokenList.TokenOrder as laws
use Rattle.yaml_scan.proofs.Course.AnswerOrder as answers
use Rattle.yaml_scan.proofs.laws.tokens_stand_in_order.Goals as goal

pub returns : goal.returns
returns c = record { list = laws.tokens_stand_in_order; answered = answers.answers_stand_in_order }

use Rattle.yaml_scan.proofs.TokenList.KeyValues as laws
use Rattle.yaml_scan.proofs.Course.AnswerOrder as answers
use Rattle.yaml_scan.proofs.laws.keys_are_followed.Goals as goal

pub returns : goal.returns
returns c = record { list = laws.keys_are_followed; answered = answers.answers_follow_keys }

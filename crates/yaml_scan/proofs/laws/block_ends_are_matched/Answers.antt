use Rattle.yaml_scan.proofs.TokenList.OneLexemeMore.{ends_never_outnumber, as_many}
use Rattle.yaml_scan.proofs.Course.AnswerOrder.{answers_end_fewer, answers_end_all}
use Rattle.yaml_scan.proofs.laws.block_ends_are_matched.Goals as goal

pub returns : goal.returns
returns c = record { beginnings = ends_never_outnumber; whole = as_many; answered = answers_end_fewer; answered_whole = answers_end_all }

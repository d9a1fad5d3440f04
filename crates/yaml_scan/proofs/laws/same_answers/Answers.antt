use Rattle.yaml_scan.proofs.Comparisons.SameAnswers.{are_same_answers-is}
use Rattle.yaml_scan.proofs.laws.same_answers.Goals as goal

pub returns : goal.returns
returns c = rw c.eq.ensures (are_same_answers-is c.args.a.now c.args.b.now)

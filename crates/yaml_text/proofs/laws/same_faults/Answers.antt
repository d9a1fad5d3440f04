use Rattle.yaml_text.proofs.Comparisons.SameFaults.{are_same_faults-is}
use Rattle.yaml_text.proofs.laws.same_faults.Goals as goal

pub returns : goal.returns
returns c = rw c.eq.ensures (are_same_faults-is c.args.a c.args.b)

use Rattle.yaml_lexeme.proofs.Comparisons.SameLexemes.{are_same_lexemes-is}
use Rattle.yaml_lexeme.proofs.laws.same_lexemes.Goals as goal

pub returns : goal.returns
returns c = rw c.eq.ensures (are_same_lexemes-is c.args.a.now c.args.b.now)

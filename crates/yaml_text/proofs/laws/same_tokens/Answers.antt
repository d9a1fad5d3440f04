use Rattle.yaml_text.proofs.Comparisons.SameTokens.{are_same_tokens-is}
use Rattle.yaml_text.proofs.laws.same_tokens.Goals as goal

pub returns : goal.returns
returns c = rw c.eq.ensures (are_same_tokens-is c.args.a.now c.args.b.now)

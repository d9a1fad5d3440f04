use Rattle.std.proofs.Common.{◌∙◌}
use Rattle.yaml_text.proofs.Comparisons.TypeOrder.{compared-is}
use Rattle.yaml_text.proofs.laws.token_type_order.Goals as goal

pub returns : goal.returns
returns c = c.cmp.ensures ∙ compared-is c.args.a c.args.b

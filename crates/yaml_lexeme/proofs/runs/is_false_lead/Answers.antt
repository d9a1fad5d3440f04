use Rattle.std.proofs.Common.{arith}
use Rattle.std.proofs.lemmas.Grind.{common_steps}
use Rattle.yaml_lexeme.proofs.runs.is_false_lead.Goals as goal

pub returns-in-194 : goal.returns-in-194
returns-in-194 c = grind (arith, common_steps)

pub returns-then-left-2 : goal.returns-then-left-2
returns-then-left-2 c = grind (arith, common_steps)

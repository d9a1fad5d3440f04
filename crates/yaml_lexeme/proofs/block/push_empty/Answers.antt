use Rattle.std.proofs.Common.{arith}
use Rattle.std.proofs.lemmas.Grind.{common_steps}
use Rattle.yaml_lexeme.proofs.block.push_empty.Goals as goal

pub returns-then-empties-lt18446744073709551615 : goal.returns-then-empties-lt18446744073709551615
returns-then-empties-lt18446744073709551615 c = grind (arith, common_steps)

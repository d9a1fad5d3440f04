use Rattle.std.proofs.Common.{rules}
use Rattle.yaml_lexeme.proofs.gap.is_far_solid.Goals as goal

pub returns : goal.returns
returns c = search rules

use Rattle.std.proofs.Common.{refl}
use Rattle.yaml_lexeme.proofs.lexeme.scalar_to.Goals as goal

pub returns : goal.returns
returns c = refl

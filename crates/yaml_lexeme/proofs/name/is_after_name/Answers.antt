use Rattle.std.proofs.Common.{rules}
use Rattle.yaml_lexeme.proofs.name.is_after_name.Goals as goal

pub returns-then-c-eq64 : goal.returns-then-c-eq64
returns-then-c-eq64 c = search rules

use Rattle.std.proofs.Common.{rules}
use Rattle.yaml_lexeme.proofs.escape.simple_escape.Goals as goal

pub returns-in-v : goal.returns-in-v
returns-in-v c = search rules

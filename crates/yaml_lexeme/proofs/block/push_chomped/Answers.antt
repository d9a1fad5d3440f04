use Rattle.std.proofs.Common.{rules}
use Rattle.yaml_lexeme.proofs.block.push_chomped.Goals as goal

pub returns-in-STRIP : goal.returns-in-STRIP
returns-in-STRIP c = search rules

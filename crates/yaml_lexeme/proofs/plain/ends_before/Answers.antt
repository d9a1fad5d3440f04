use Rattle.std.proofs.Common.{rules}
use Rattle.yaml_lexeme.proofs.plain.ends_before.Goals as goal

pub returns-else-c-eq93 : goal.returns-else-c-eq93
returns-else-c-eq93 c = search rules

pub returns-then-mark-least : goal.returns-then-mark-least
returns-then-mark-least c = search rules

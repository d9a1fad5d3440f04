use Rattle.std.proofs.Common.{rules}
use Rattle.yaml_lexeme.proofs.lex.yaml_marker_kind.Goals as goal

pub returns-then-start : goal.returns-then-start
returns-then-start c = search rules

pub returns-else-start : goal.returns-else-start
returns-else-start c = search rules

use Rattle.std.proofs.Common.{rules}
use Rattle.yaml_lexeme.proofs.place.mark_after.Goals as goal

pub returns-else-is_break-clause-value : goal.returns-else-is_break-clause-value
returns-else-is_break-clause-value c = search rules

pub returns-then-not-next-clause-value : goal.returns-then-not-next-clause-value
returns-then-not-next-clause-value c = search rules

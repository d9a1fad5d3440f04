use Rattle.std.proofs.Common.{rules}
use Rattle.yaml_lexeme.proofs.gap.take_comment_line.Goals as goal

pub returns-then-is_some-clause-broken : goal.returns-then-is_some-clause-broken
returns-then-is_some-clause-broken c = search rules

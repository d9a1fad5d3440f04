use Rattle.std.proofs.Common.{rules}
use Rattle.yaml_lexeme.specs.Directive.{tag_directive_at}
use Rattle.yaml_lexeme.proofs.directive.take_tag_directive.Goals as goal

pub returns-in_err-prefix : goal.returns-in_err-prefix
unfolding tag_directive_at
returns-in_err-prefix c = search rules

pub returns-then-not-ends : goal.returns-then-not-ends
unfolding tag_directive_at
returns-then-not-ends c = search rules

pub returns : goal.returns
unfolding tag_directive_at
returns c = search rules

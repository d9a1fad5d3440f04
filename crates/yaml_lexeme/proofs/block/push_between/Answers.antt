use Rattle.std.proofs.Common.{rules}
use Rattle.yaml_lexeme.proofs.block.push_between.Goals as goal

pub returns-in_ok-push_empties : goal.returns-in_ok-push_empties
returns-in_ok-push_empties c = search rules

pub returns-in_ok-push_space : goal.returns-in_ok-push_space
returns-in_ok-push_space c = search rules

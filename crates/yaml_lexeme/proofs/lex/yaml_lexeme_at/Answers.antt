use Rattle.std.proofs.Common.{rules}
use Rattle.yaml_lexeme.proofs.lex.yaml_lexeme_at.Goals as goal

pub returns-in-Err-clause-value : goal.returns-in-Err-clause-value
returns-in-Err-clause-value c = search rules

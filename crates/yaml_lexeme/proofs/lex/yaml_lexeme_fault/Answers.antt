use Rattle.std.proofs.Common.{rules}
use Rattle.yaml_lexeme.proofs.lex.yaml_lexeme_fault.Goals as goal

pub returns-in-OFFENCE : goal.returns-in-OFFENCE
returns-in-OFFENCE c = search rules

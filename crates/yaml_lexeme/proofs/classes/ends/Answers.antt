use Rattle.yaml_lexeme.specs.Classes.{ends}
use Rattle.yaml_lexeme.specs.declared.classes.TheConstants.{ENDS}
use Rattle.yaml_lexeme.proofs.Places.AsciiTables.{table_tells}
use Rattle.yaml_lexeme.proofs.classes.ends.Goals as goal

pub returns-then-c-lt128 : goal.returns-then-c-lt128
returns-then-c-lt128 c = table_tells ENDS ends c.args.c c.if-c-lt128.true tt

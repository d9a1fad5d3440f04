use Rattle.std.proofs.Common.{◌∙◌, ap}
use Rattle.yaml_lexeme.specs.inside.Runs.{is_solid}
use Rattle.yaml_lexeme.specs.declared.gap.TheConstants.{SOLID}
use Rattle.yaml_lexeme.proofs.Places.AsciiTables.{table_tells}
use Rattle.yaml_lexeme.proofs.gap.is_solid.Goals as goal

pub returns-then-c-lt128 : goal.returns-then-c-lt128
returns-then-c-lt128 c = table_tells SOLID is_solid c.peek-c.result c.if-c-lt128.true tt ∙ ap is_solid c.peek-c.ensures

use Rattle.std.proofs.Common.{◌∙◌}
use Rattle.yaml_lexeme.proofs.Readers.NameBytes.{name_bytes}
use Rattle.yaml_lexeme.proofs.name.take_letters.Goals as goal

pub returns-clause-value : goal.returns-clause-value
returns-clause-value c = c.quick_run.ensures.value ∙ name_bytes c.args.cursor.now

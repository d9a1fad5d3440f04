use Rattle.std.proofs.Common.{◌∙◌}
use Rattle.yaml_lexeme.proofs.Readers.NameBytes.{uri_bytes}
use Rattle.yaml_lexeme.proofs.uri.uri_run.Goals as goal

pub returns-clause-value : goal.returns-clause-value
returns-clause-value c = c.quick_run.ensures.value ∙ uri_bytes c.args.listed c.args.cursor.now

use Rattle.std.proofs.Common.{rules}
use Rattle.yaml_lexeme.proofs.reader.refused_here.Goals as goal

pub returns-clause-at : goal.returns-clause-at
returns-clause-at c = search rules

use Rattle.std.proofs.Common.{rules}
use Rattle.yaml_lexeme.proofs.gap.skip_line.Goals as goal

pub returns : goal.returns
returns c = search rules

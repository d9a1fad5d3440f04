use Rattle.std.proofs.Common.{rules}
use Rattle.yaml_lexeme.proofs.gap.skip_mark.Goals as goal

pub returns-then-peek-eq65279 : goal.returns-then-peek-eq65279
returns-then-peek-eq65279 c = search rules

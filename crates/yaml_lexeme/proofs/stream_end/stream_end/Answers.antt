use Rattle.std.proofs.Common.{rules}
use Rattle.yaml_lexeme.proofs.stream_end.stream_end.Goals as goal

pub returns-else-mark-eq0 : goal.returns-else-mark-eq0
returns-else-mark-eq0 c = search rules

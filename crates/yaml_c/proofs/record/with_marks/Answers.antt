use Rattle.std.proofs.Common.{rules}
use Rattle.yaml_c.proofs.record.with_marks.Goals as goal

pub returns : goal.returns
returns c = search rules

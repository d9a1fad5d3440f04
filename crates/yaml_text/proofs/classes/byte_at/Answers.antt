use Rattle.std.proofs.Common.{rules}
use Rattle.yaml_text.proofs.classes.byte_at.Goals as goal

pub returns : goal.returns
returns c = search rules

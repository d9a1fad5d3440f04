use Rattle.std.proofs.Common.{rules}
use Rattle.yaml_c.proofs.calls.close.Goals as goal

pub into_box-requires : goal.into_box-requires
into_box-requires c = search rules

use Rattle.std.proofs.Common.{rules}
use Rattle.yaml_c.proofs.spelled.skipped_of.Goals as goal

pub returns-in-239 : goal.returns-in-239
returns-in-239 c = search rules

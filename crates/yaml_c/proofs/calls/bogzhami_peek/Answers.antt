use Rattle.std.proofs.Common.{rules}
use Rattle.yaml_c.proofs.calls.bogzhami_peek.Goals as goal

pub returns-clause-peek : goal.returns-clause-peek
returns-clause-peek c = search rules

use Rattle.std.proofs.Common.{rules}
use Rattle.yaml_c.proofs.calls.bogzhami_reach.Goals as goal

pub returns-clause-reach : goal.returns-clause-reach
returns-clause-reach c = search rules

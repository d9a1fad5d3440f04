use Rattle.std.proofs.Common.{rules}
use Rattle.yaml_c.proofs.calls.bogzhami_encoding.Goals as goal

pub returns-clause-encoding : goal.returns-clause-encoding
returns-clause-encoding c = search rules

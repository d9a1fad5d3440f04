use Rattle.std.proofs.Common.{rules}
use Rattle.yaml_listing.proofs.run.read_all.Goals as goal

pub returns-clause-end : goal.returns-clause-end
returns-clause-end g c = search rules

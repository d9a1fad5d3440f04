use Rattle.std.proofs.Common.{rules}
use Rattle.yaml_listing.proofs.mark.kept_number_t.set.Goals as goal

pub returns-clause-text : goal.returns-clause-text
returns-clause-text c = search rules

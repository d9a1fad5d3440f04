use Rattle.std.proofs.Common.{rules}
use Rattle.yaml_listing.proofs.devices.yaml_sink_of_t.new.Goals as goal

pub returns-clause-working : goal.returns-clause-working
returns-clause-working g c = search rules

use Rattle.std.proofs.Common.{rules}
use Rattle.yaml_listing.proofs.devices.Yaml_sink_of_tyaml_sink_t.put.Goals as goal

pub returns-in-Ok-clause-progress : goal.returns-in-Ok-clause-progress
returns-in-Ok-clause-progress g c = search rules

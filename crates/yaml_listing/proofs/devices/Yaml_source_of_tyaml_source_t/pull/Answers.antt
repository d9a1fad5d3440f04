use Rattle.std.proofs.Common.{rules}
use Rattle.yaml_listing.proofs.devices.Yaml_source_of_tyaml_source_t.pull.Goals as goal

pub returns-in-Ok-clause-bytes : goal.returns-in-Ok-clause-bytes
returns-in-Ok-clause-bytes g c = search rules

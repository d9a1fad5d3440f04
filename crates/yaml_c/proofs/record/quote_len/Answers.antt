use Rattle.std.proofs.Common.{rules}
use Rattle.yaml_c.proofs.record.quote_len.Goals as goal

pub returns-in-YAML_SINGLE_QUOTED_SCALAR_STYLE : goal.returns-in-YAML_SINGLE_QUOTED_SCALAR_STYLE
returns-in-YAML_SINGLE_QUOTED_SCALAR_STYLE c = search rules

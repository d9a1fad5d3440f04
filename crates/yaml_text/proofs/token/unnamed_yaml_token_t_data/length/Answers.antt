use Rattle.std.proofs.Common.{rules}
use Rattle.yaml_text.proofs.token.unnamed_yaml_token_t_data.length.Goals as goal

pub returns-in-SCALAR : goal.returns-in-SCALAR
returns-in-SCALAR c = search rules

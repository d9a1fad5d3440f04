use Rattle.std.proofs.Common.{rules}
use Rattle.yaml_text.proofs.token.unnamed_yaml_token_t_data.type_.Goals as goal

pub returns-in-KEY : goal.returns-in-KEY
returns-in-KEY c = search rules

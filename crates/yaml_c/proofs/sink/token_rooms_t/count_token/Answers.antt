use Rattle.std.proofs.Common.{rules}
use Rattle.yaml_c.proofs.sink.token_rooms_t.count_token.Goals as goal

pub returns-clause-token_count : goal.returns-clause-token_count
returns-clause-token_count c = search rules

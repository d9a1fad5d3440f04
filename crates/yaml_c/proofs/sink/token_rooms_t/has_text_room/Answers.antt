use Rattle.std.proofs.Common.{rules}
use Rattle.yaml_c.proofs.sink.token_rooms_t.has_text_room.Goals as goal

pub returns : goal.returns
returns c = search rules

use Rattle.std.proofs.Common.{rules}
use Rattle.yaml_scan.proofs.sink.has_room_for_both.Goals as goal

pub returns-then-this-ne0-clause-room : goal.returns-then-this-ne0-clause-room
returns-then-this-ne0-clause-room c = search rules

use Rattle.yaml_c.proofs.Rooms.{covered_by_one}
use Rattle.yaml_c.proofs.room.put_record.Goals as goal

pub returns-then-at-room : goal.returns-then-at-room
returns-then-at-room c = covered_by_one c.args.at c.args.token c.args.room.now c.if-at-room.true

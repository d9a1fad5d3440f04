use Rattle.yaml_c.proofs.Rooms.{covered_whole, covered_short, length-covered}
use Rattle.yaml_c.proofs.laws.records_in_room.Goals as goal

pub returns-clause-all : goal.returns-clause-all
returns-clause-all c xs room h = covered_whole xs room h

pub returns-clause-beginning : goal.returns-clause-beginning
returns-clause-beginning c xs room h = covered_short xs room h

pub returns-clause-size : goal.returns-clause-size
returns-clause-size c xs room = length-covered xs room

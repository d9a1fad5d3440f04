use Rattle.std.proofs.Common.{rules}
use Rattle.yaml_scan.proofs.step.make_room.Goals as goal

pub returns : goal.returns
returns c = search rules

pub returns-in_err-reserve-3 : goal.returns-in_err-reserve-3
returns-in_err-reserve-3 c = search rules

use Rattle.std.proofs.Common.{◌-◌, length}
use Rattle.yaml_scan.specs.inside.Slots.{AreEmptyBelow}
use Rattle.yaml_scan.proofs.slots.count_empty.Given as goal

abbrev pub invariant-loop-empty : goal.invariant-loop-empty
invariant-loop-empty l = AreEmptyBelow l.empty l.slots

abbrev pub decreases-loop-empty : goal.decreases-loop-empty
decreases-loop-empty l = length l.slots - l.empty

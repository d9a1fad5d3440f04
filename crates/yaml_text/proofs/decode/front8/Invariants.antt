use Rattle.std.proofs.Common.{◌-◌, ◌≤◌, length, take}
use Rattle.yaml_text.specs.TextBytes.{IsText}
use Rattle.yaml_text.proofs.decode.front8.Given as goal

abbrev pub invariant-loop-at : goal.invariant-loop-at
invariant-loop-at l = record { within : l.at ≤ length l.bytes; text : IsText (take l.at l.bytes) }

abbrev pub decreases-loop-at : goal.decreases-loop-at
decreases-loop-at l = length l.bytes - l.at

use Rattle.std.proofs.Common.{◌-◌, ◌≤◌, length}
use Rattle.yaml_text.specs.inside.Windows.{AreNarrow}
use Rattle.yaml_text.proofs.blocks.narrow_len.Given as goal

abbrev pub invariant-narrow : goal.invariant-narrow
invariant-narrow l = record { narrow : AreNarrow l.bytes l.i; within : l.i ≤ length l.bytes }

abbrev pub decreases-narrow : goal.decreases-narrow
decreases-narrow l = length l.bytes - l.i

use Rattle.std.proofs.Common.{◌-◌, ◌≤◌, length}
use Rattle.yaml_text.specs.inside.Windows.{AreClean}
use Rattle.yaml_text.proofs.blocks.far_clean_len.Given as goal

abbrev pub invariant-clean : goal.invariant-clean
invariant-clean l = record { clean : AreClean l.bytes l.i; within : l.i ≤ length l.bytes }

abbrev pub decreases-clean : goal.decreases-clean
decreases-clean l = length l.bytes - l.i

use Rattle.std.proofs.Common.{◌≡◌, ◌+◌, ◌-◌, ◌≤◌, length, drop}
use Rattle.std.specs.List.{prefix_len}
use Rattle.yaml_text.specs.inside.Singles.{is_single}
use Rattle.yaml_text.proofs.ascii.single_len.Given as goal

abbrev pub invariant-wide : goal.invariant-wide
invariant-wide l = (prefix_len is_single l.bytes ≡ l.i + prefix_len is_single (drop l.i l.bytes)) × (l.i ≤ length l.bytes)

abbrev pub decreases-wide : goal.decreases-wide
decreases-wide l = length l.bytes - l.i

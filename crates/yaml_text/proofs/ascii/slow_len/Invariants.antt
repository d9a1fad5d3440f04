use Rattle.std.proofs.Common.{◌≡◌, ◌+◌, ◌-◌, ◌≤◌, length, drop}
use Rattle.std.specs.List.{prefix_len}
use Rattle.yaml_text.specs.inside.Singles.{is_single}
use Rattle.yaml_text.proofs.ascii.slow_len.Given as goal

abbrev pub invariant-bytes : goal.invariant-bytes
invariant-bytes l =
    (l.from + prefix_len is_single (drop l.from l.bytes) ≡ l.i + prefix_len is_single (drop l.i l.bytes)) × (l.i ≤ length l.bytes)

abbrev pub decreases-bytes : goal.decreases-bytes
decreases-bytes l = length l.bytes - l.i

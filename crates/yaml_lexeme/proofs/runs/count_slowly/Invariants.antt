use Rattle.std.proofs.Common.{◌≡◌, ◌+◌, ◌-◌, ◌≤◌, length, drop}
use Rattle.std.specs.List.{count_by}
use Rattle.yaml_lexeme.specs.inside.Runs.{begins}
use Rattle.yaml_lexeme.proofs.runs.count_slowly.Given as goal

abbrev pub invariant-bytes : goal.invariant-bytes
invariant-bytes l =
    (l.n + count_by begins (drop l.i l.text) ≡ count_by begins (drop l.from l.text)) × (l.i ≤ length l.text) × (l.n + l.from ≤ l.i)

abbrev pub decreases-bytes : goal.decreases-bytes
decreases-bytes l = length l.text - l.i

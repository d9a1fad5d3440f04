use Rattle.std.proofs.Common.{◌≡◌, ◌+◌, ◌-◌, ◌≤◌, length, drop}
use Rattle.std.specs.List.{count_by}
use Rattle.yaml_lexeme.specs.inside.Runs.{begins}
use Rattle.yaml_lexeme.proofs.runs.count_chars.Given as goal

abbrev pub invariant-wide : goal.invariant-wide
invariant-wide l = (l.n + count_by begins (drop l.i l.text) ≡ count_by begins l.text) × (l.i ≤ length l.text)

abbrev pub decreases-wide : goal.decreases-wide
decreases-wide l = length l.text - l.i

use Rattle.std.proofs.Common.{◌≡◌, ◌+◌, ◌-◌, ◌≤◌, length, drop}
use Rattle.std.specs.List.{prefix_len}
use Rattle.yaml_lexeme.specs.inside.Runs.{is_quiet}
use Rattle.yaml_lexeme.proofs.runs.narrow_run.Given as goal

abbrev pub invariant-wide : goal.invariant-wide
invariant-wide l = (prefix_len (is_quiet l.class) l.text ≡ l.i + prefix_len (is_quiet l.class) (drop l.i l.text)) × (l.i ≤ length l.text)

abbrev pub decreases-wide : goal.decreases-wide
decreases-wide l = length l.text - l.i

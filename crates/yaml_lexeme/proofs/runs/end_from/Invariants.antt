use Rattle.std.proofs.Common.{◌≡◌, ◌+◌, ◌-◌, ◌≤◌, length, drop}
use Rattle.std.specs.List.{prefix_len}
use Rattle.yaml_lexeme.specs.inside.Runs.{is_quiet}
use Rattle.yaml_lexeme.proofs.runs.end_from.Given as goal

abbrev pub invariant-bytes : goal.invariant-bytes
invariant-bytes l =
    (l.from + prefix_len (is_quiet l.class) (drop l.from l.text) ≡ l.i + prefix_len (is_quiet l.class) (drop l.i l.text)) × (l.i ≤ length l.text)

abbrev pub decreases-bytes : goal.decreases-bytes
decreases-bytes l = length l.text - l.i

use Rattle.std.proofs.Common.{◌≡◌, ◌+◌, ◌-◌, ◌≤◌, length, drop}
use Rattle.std.specs.List.{prefix_len}
use Rattle.yaml_lexeme.specs.declared.runs.class_t.TheVariants.{IN_LINE}
use Rattle.yaml_lexeme.specs.inside.Runs.{is_quiet}
use Rattle.yaml_lexeme.proofs.runs.line_run.Given as goal

abbrev pub invariant-wide : goal.invariant-wide
invariant-wide l = (prefix_len (is_quiet IN_LINE) l.text ≡ l.i + prefix_len (is_quiet IN_LINE) (drop l.i l.text)) × (l.i ≤ length l.text)

abbrev pub decreases-wide : goal.decreases-wide
decreases-wide l = length l.text - l.i

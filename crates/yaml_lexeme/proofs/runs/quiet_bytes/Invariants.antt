use Rattle.std.proofs.Common.{◌≡◌, ◌+◌, ◌-◌, ◌≤◌, length, take, drop}
use Rattle.std.specs.List.{prefix_len, count_by}
use Rattle.yaml_lexeme.specs.inside.Runs.{is_quiet, begins}
use Rattle.yaml_lexeme.proofs.runs.quiet_bytes.Given as goal

abbrev pub invariant-wide : goal.invariant-wide
invariant-wide l = record {
  run : prefix_len (is_quiet l.class) l.text ≡ l.i + prefix_len (is_quiet l.class) (drop l.i l.text);
  within : l.i ≤ length l.text;
  chars : l.n ≡ count_by begins (take l.i l.text);
  fewer : l.n ≤ l.i;
}

abbrev pub decreases-wide : goal.decreases-wide
decreases-wide l = length l.text - l.i

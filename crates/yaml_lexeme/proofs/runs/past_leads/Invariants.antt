use Rattle.std.proofs.Common.{◌≡◌, ◌-◌, ◌≤◌, length, take}
use Rattle.std.specs.List.{count_by}
use Rattle.yaml_lexeme.specs.inside.Runs.{begins, Clear}
use Rattle.yaml_lexeme.proofs.runs.past_leads.Given as goal

abbrev pub invariant-leads : goal.invariant-leads
invariant-leads l = record {
  clear : Clear l.class l.text l.i;
  within : l.i ≤ length l.text;
  chars : l.n ≡ count_by begins (take l.i l.text);
  fewer : l.n ≤ l.i;
}

abbrev pub decreases-leads : goal.decreases-leads
decreases-leads l = length l.text - l.i

use Rattle.std.proofs.Common.{◌-◌, ◌≤◌, length}
use Rattle.yaml_lexeme.specs.declared.runs.class_t.TheVariants.{IN_LINE}
use Rattle.yaml_lexeme.specs.inside.Runs.{Clear}
use Rattle.yaml_lexeme.proofs.runs.past_line_leads.Given as goal

abbrev pub invariant-leads : goal.invariant-leads
invariant-leads l = record {
  clear : Clear IN_LINE l.text l.i;
  within : l.i ≤ length l.text;
}

abbrev pub decreases-leads : goal.decreases-leads
decreases-leads l = length l.text - l.i

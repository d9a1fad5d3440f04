use Rattle.std.proofs.Common.{refl, arith}
use Rattle.std.proofs.lemmas.List.Sums.{prefix_len-le-length}
use Rattle.yaml_lexeme.specs.declared.runs.class_t.TheVariants.{IN_LINE}
use Rattle.yaml_lexeme.specs.inside.Runs.{is_quiet}
use Rattle.yaml_lexeme.proofs.ManyBytes.ClearRuns.{quiet_is_clear}
use Rattle.yaml_lexeme.proofs.runs.line_len.Goals as goal

pub past_line_leads-requires-clause-clear : goal.past_line_leads-requires-clause-clear
past_line_leads-requires-clause-clear c = quiet_is_clear IN_LINE c.args.text.now c.line_run-n.result refl c.line_run-n.ensures

pub returns-clause-clear : goal.returns-clause-clear
returns-clause-clear c = quiet_is_clear IN_LINE c.args.text.now c.line_run-n.result refl c.line_run-n.ensures

pub returns-clause-bound : goal.returns-clause-bound
returns-clause-bound c = omega (arith, c.line_run-n.ensures, prefix_len-le-length (is_quiet IN_LINE) c.args.text.now)

use Rattle.yaml_scan.proofs.step.step_lexeme.Given as goal

abbrev pub ghost-begin_step : goal.ghost-begin_step
ghost-begin_step g a = g.before

abbrev pub ghost-lay_read : goal.ghost-lay_read
ghost-lay_read g a = g.before

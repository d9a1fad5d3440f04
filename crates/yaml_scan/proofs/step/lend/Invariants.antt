use Rattle.yaml_scan.proofs.step.lend.Given as goal

abbrev pub ghost-begin_step : goal.ghost-begin_step
ghost-begin_step g a = g.before

abbrev pub ghost-lay_lent : goal.ghost-lay_lent
ghost-lay_lent g a = g.before

use Rattle.yaml_scan.proofs.step.step_scalar.Given as goal

abbrev pub ghost-step_lent : goal.ghost-step_lent
ghost-step_lent g a = g.before

abbrev pub ghost-step_lexeme : goal.ghost-step_lexeme
ghost-step_lexeme g a = g.before

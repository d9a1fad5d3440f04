use Rattle.yaml_scan.proofs.step.step_lent.Given as goal

abbrev pub ghost-lend : goal.ghost-lend
ghost-lend g a = g.before

abbrev pub ghost-step_lexeme : goal.ghost-step_lexeme
ghost-step_lexeme g a = g.before

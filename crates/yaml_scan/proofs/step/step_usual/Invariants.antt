use Rattle.yaml_scan.proofs.step.step_usual.Given as goal

abbrev pub ghost-step_lexeme : goal.ghost-step_lexeme
ghost-step_lexeme g a = g.before

abbrev pub ghost-lend_usual : goal.ghost-lend_usual
ghost-lend_usual g a = g.before

abbrev pub ghost-step_lent : goal.ghost-step_lent
ghost-step_lent g a = g.before

abbrev pub ghost-lend : goal.ghost-lend
ghost-lend g a = g.before

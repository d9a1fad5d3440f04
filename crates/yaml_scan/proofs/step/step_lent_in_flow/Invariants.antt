use Rattle.yaml_scan.proofs.step.step_lent_in_flow.Given as goal

abbrev pub ghost-step_lexeme : goal.ghost-step_lexeme
ghost-step_lexeme g a = g.before

abbrev pub ghost-lend_in_flow : goal.ghost-lend_in_flow
ghost-lend_in_flow g a = g.before

use Rattle.yaml_scan.proofs.step.step_queued.Given as goal

abbrev pub ghost-step_lexeme : goal.ghost-step_lexeme
ghost-step_lexeme g a = g.before

use Rattle.yaml_scan.proofs.step.step.Given as goal

abbrev pub ghost-step_to : goal.ghost-step_to
ghost-step_to g a = g.before

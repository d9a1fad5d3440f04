use Rattle.yaml_scan.proofs.step.step_flow_paired.Given as goal

abbrev pub ghost-step_flow : goal.ghost-step_flow
ghost-step_flow g a = g.before

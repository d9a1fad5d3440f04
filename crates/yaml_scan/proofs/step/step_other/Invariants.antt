use Rattle.yaml_scan.proofs.step.step_other.Given as goal

abbrev pub ghost-step_kind : goal.ghost-step_kind
ghost-step_kind g a = g.before

use Rattle.yaml_scan.proofs.step.begin_step.Given as goal

abbrev pub ghost-refuse_kind : goal.ghost-refuse_kind
ghost-refuse_kind g a = g.before

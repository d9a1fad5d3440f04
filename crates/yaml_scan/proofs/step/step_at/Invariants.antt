use Rattle.yaml_scan.proofs.step.step_at.Given as goal

abbrev pub ghost-pass_gap : goal.ghost-pass_gap
ghost-pass_gap g a = g.before

abbrev pub ghost-step_kind : goal.ghost-step_kind
ghost-step_kind g a = g.before

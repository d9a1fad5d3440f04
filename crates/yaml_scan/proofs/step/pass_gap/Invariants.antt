use Rattle.yaml_scan.proofs.step.pass_gap.Given as goal

abbrev pub ghost-stop_in_gap : goal.ghost-stop_in_gap
ghost-stop_in_gap g a = g.before

abbrev pub ghost-stop_without_kind : goal.ghost-stop_without_kind
ghost-stop_without_kind g a = g.before

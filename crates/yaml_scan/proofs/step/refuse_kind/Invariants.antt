use Rattle.yaml_scan.proofs.step.refuse_kind.Given as goal

abbrev pub ghost-stop_at_kind : goal.ghost-stop_at_kind
ghost-stop_at_kind g a = g.before

abbrev pub ghost-stop_at_start : goal.ghost-stop_at_start
ghost-stop_at_start g a = g.before

use Rattle.yaml_scan.proofs.laid.check_reach.Given as goal

abbrev pub ghost-stop_after : goal.ghost-stop_after
ghost-stop_after g a = g.before

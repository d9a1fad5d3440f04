use Rattle.yaml_scan.proofs.stop.stop_in_gap.Given as goal

abbrev pub ghost-stop_without : goal.ghost-stop_without
ghost-stop_without g a = g.before

use Rattle.yaml_scan.proofs.stop.stop_after.Given as goal

abbrev pub ghost-stop_near : goal.ghost-stop_near
ghost-stop_near g a = g.before

abbrev pub ghost-stop_without : goal.ghost-stop_without
ghost-stop_without g a = g.before

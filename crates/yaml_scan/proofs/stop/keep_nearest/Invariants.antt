use Rattle.yaml_scan.proofs.stop.keep_nearest.Given as goal

abbrev pub ghost-nearest : goal.ghost-nearest
ghost-nearest g a = g.before

use Rattle.yaml_scan.proofs.stop.stop_at_kind.Given as goal

abbrev pub ghost-keep_nearest : goal.ghost-keep_nearest
ghost-keep_nearest g a = g.before

use Rattle.yaml_scan.proofs.laid.end_queued.Given as goal

abbrev pub ghost-check_reach : goal.ghost-check_reach
ghost-check_reach g a = g.before

abbrev pub ghost-end_in_queue : goal.ghost-end_in_queue
ghost-end_in_queue g a = g.before

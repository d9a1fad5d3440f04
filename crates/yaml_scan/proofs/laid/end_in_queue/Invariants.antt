use Rattle.yaml_scan.proofs.laid.end_in_queue.Given as goal

abbrev pub ghost-end_character : goal.ghost-end_character
ghost-end_character g a = g.before

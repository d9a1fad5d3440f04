use Rattle.yaml_scan.proofs.lines.lend_usual.Given as goal

abbrev pub ghost-lend_key : goal.ghost-lend_key
ghost-lend_key g a = g.before

abbrev pub ghost-lend_value : goal.ghost-lend_value
ghost-lend_value g a = g.before

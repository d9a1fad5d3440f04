use Rattle.yaml_scan.proofs.lines.lend_key.Given as goal

abbrev pub ghost-usual_met : goal.ghost-usual_met
ghost-usual_met g a = g.before

abbrev pub ghost-lay_key : goal.ghost-lay_key
ghost-lay_key g a = g.before

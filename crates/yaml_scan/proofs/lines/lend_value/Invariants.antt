use Rattle.yaml_scan.proofs.lines.lend_value.Given as goal

abbrev pub ghost-usual_met : goal.ghost-usual_met
ghost-usual_met g a = g.before

abbrev pub ghost-lay_value : goal.ghost-lay_value
ghost-lay_value g a = g.before

use Rattle.yaml_scan.proofs.flow.lend_in_flow.Given as goal

abbrev pub ghost-usual_met : goal.ghost-usual_met
ghost-usual_met g a = g.before

abbrev pub ghost-lay_in_flow : goal.ghost-lay_in_flow
ghost-lay_in_flow g a = g.before

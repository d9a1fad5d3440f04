use Rattle.yaml_scan.proofs.step.step_flow.Given as goal

abbrev pub ghost-pass_gap : goal.ghost-pass_gap
ghost-pass_gap g a = g.before

abbrev pub ghost-step_lent_in_flow : goal.ghost-step_lent_in_flow
ghost-step_lent_in_flow g a = g.before

abbrev pub ghost-step_lent_in_flow-2 : goal.ghost-step_lent_in_flow-2
ghost-step_lent_in_flow-2 g a = g.before

abbrev pub ghost-step_lent_in_flow-3 : goal.ghost-step_lent_in_flow-3
ghost-step_lent_in_flow-3 g a = g.before

abbrev pub ghost-step_character : goal.ghost-step_character
ghost-step_character g a = g.before

abbrev pub ghost-step_at : goal.ghost-step_at
ghost-step_at g a = g.before

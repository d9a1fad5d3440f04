use Rattle.yaml_scan.proofs.step.step_character.Given as goal

abbrev pub ghost-begin_step : goal.ghost-begin_step
ghost-begin_step g a = g.before

abbrev pub ghost-check_reach : goal.ghost-check_reach
ghost-check_reach g a = g.before

abbrev pub ghost-end_character : goal.ghost-end_character
ghost-end_character g a = g.before

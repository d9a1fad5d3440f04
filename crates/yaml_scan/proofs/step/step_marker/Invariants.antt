use Rattle.yaml_scan.proofs.step.step_marker.Given as goal

abbrev pub ghost-begin_step : goal.ghost-begin_step
ghost-begin_step g a = g.before

abbrev pub ghost-end_queued : goal.ghost-end_queued
ghost-end_queued g a = g.before

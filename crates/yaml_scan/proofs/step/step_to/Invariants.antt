use Rattle.yaml_scan.proofs.step.step_to.Given as goal

abbrev pub ghost-step_at : goal.ghost-step_at
ghost-step_at g a = g.before

abbrev pub ghost-step_block : goal.ghost-step_block
ghost-step_block g a = g.before

abbrev pub ghost-step_at-2 : goal.ghost-step_at-2
ghost-step_at-2 g a = g.before

abbrev pub ghost-step_flow_paired : goal.ghost-step_flow_paired
ghost-step_flow_paired g a = g.before

use Rattle.yaml_scan.proofs.step.step_apart.Given as goal

abbrev pub ghost-step_at : goal.ghost-step_at
ghost-step_at g a = g.before

abbrev pub ghost-step_at-2 : goal.ghost-step_at-2
ghost-step_at-2 g a = g.before

abbrev pub ghost-step_block_apart : goal.ghost-step_block_apart
ghost-step_block_apart g a = g.before

abbrev pub ghost-step_flow_apart : goal.ghost-step_flow_apart
ghost-step_flow_apart g a = g.before

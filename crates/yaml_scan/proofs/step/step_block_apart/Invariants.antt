use Rattle.yaml_scan.proofs.step.step_block_apart.Given as goal

abbrev pub ghost-step_block : goal.ghost-step_block
ghost-step_block g a = g.before

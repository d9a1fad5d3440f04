use Rattle.std.proofs.Common.{ne_eqb}
use Rattle.yaml_scan.proofs.step.step_to.Goals as goal

pub returns-then-this-ne0-2-clause-steps : goal.returns-then-this-ne0-2-clause-steps
returns-then-this-ne0-2-clause-steps g c = rw (ne_eqb _ _ c.if-this-ne0-2.true) c.step_block.ensures.steps

pub returns-then-is_empty-clause-steps : goal.returns-then-is_empty-clause-steps
returns-then-is_empty-clause-steps g c = rw (ne_eqb _ _ c.if-this-ne0.true) c.step_flow_paired.ensures.steps

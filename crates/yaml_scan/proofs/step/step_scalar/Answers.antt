use Rattle.yaml_scan.proofs.step.step_scalar.Goals as goal

pub returns-clause-steps : goal.returns-clause-steps
returns-clause-steps g c = rw (c.has_room_for_both.ensures.direct c.if-not-has_room_for_both.false) c.step_lent.ensures.steps

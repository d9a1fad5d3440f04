use Rattle.yaml_scan.proofs.step.ensure_room.Goals as goal

pub returns-in-Err : goal.returns-in-Err
returns-in-Err c = λ X. rw c.stopped.ensures (c.in-Err.ensures X)

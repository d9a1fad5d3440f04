use Rattle.yaml_scan.proofs.laid.end_queued.Goals as goal

pub end_in_queue-requires : goal.end_in_queue-requires
end_in_queue-requires g c = (c.args.text.now, (rw c.in-Ok.ensures.0 c.in-Ok.ensures.1))

pub returns-in-Ok : goal.returns-in-Ok
returns-in-Ok g c = rw (← c.in-Ok.ensures.0) (c.end_in_queue.ensures c.args.text.now (rw c.in-Ok.ensures.0 c.in-Ok.ensures.1))

pub returns-in-Err : goal.returns-in-Err
returns-in-Err g c = rw c.stopped.ensures c.in-Err.ensures

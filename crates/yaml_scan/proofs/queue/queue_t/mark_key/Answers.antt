use Rattle.std.proofs.Common.{true, false}
use Rattle.yaml_scan.proofs.RunningQueue.QueueGroups.{set_keyed}
use Rattle.yaml_scan.proofs.queue.queue_t.mark_key.Goals as goal

pub returns-then-opens-clause-items : goal.returns-then-opens-clause-items
returns-then-opens-clause-items c = rw c.if-opens.true (set_keyed c.args.self.now.groups.items c.args.at c.index_mut-group.result.now true c.requires c.index_mut-group.ensures.value)

pub returns-else-opens-clause-items : goal.returns-else-opens-clause-items
returns-else-opens-clause-items c = rw c.if-opens.false (set_keyed c.args.self.now.groups.items c.args.at c.index_mut-group.result.now false c.requires c.index_mut-group.ensures.value)

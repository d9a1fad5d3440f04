use Rattle.std.proofs.Common.{◌≤◌, length, refl, arith}
use Rattle.yaml_scan.specs.inside.Queue.{pending}
use Rattle.yaml_scan.proofs.RunningQueue.QueueGroups.{token_taken}
use Rattle.yaml_scan.proofs.queue.queue_t.take_bare.Goals as goal

pub returns : goal.returns
returns c = let g = rw c.unwrap.ensures at c.pop_front.ensures.items in
    let l : length (pending c.args.self.now.early c.args.self.now.early_mark c.args.self.now.groups.items) ≤ 0 = rw c.requires.none (omega arith) in
    λ e xs q. token_taken e c.args.self.now _ c.unwrap.result c.pop_front.new.self.items xs q g refl l refl refl refl

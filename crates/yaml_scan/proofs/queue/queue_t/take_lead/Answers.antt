use Rattle.std.proofs.Common.{refl}
use Rattle.yaml_scan.proofs.RunningQueue.QueueGroups.{head_taken}
use Rattle.yaml_scan.proofs.queue.queue_t.take_lead.Goals as goal

pub returns-clause-lead : goal.returns-clause-lead
returns-clause-lead c = let g = rw c.unwrap-head.ensures at c.front_mut.ensures.value in let t = c.take_lead.ensures in
    λ token n k. head_taken c.args.self.now _ c.unwrap-head.result.now c.take_lead.new.self c.take_lead.result token c.requires.late c.requires.some g refl t.lead n t.leads t.token k refl refl refl

use Rattle.std.proofs.Common.{refl, sym, ◌∙◌, arith}
use Rattle.yaml_scan.proofs.RunningQueue.QueueGroups.{early_next, head_next}
use Rattle.yaml_scan.proofs.queue.queue_t.has_ends.Goals as goal

pub returns-then-is_early : goal.returns-then-is_early
returns-then-is_early c = let q = c.args.self.now in sym (early_next q.early q.early_mark q.groups.items (sym c.is_early.ensures ∙ c.if-is_early.true))

pub returns-in-Some : goal.returns-in-Some
returns-in-Some c = let q = c.args.self.now in let l = c.in-Some.ensures.variant.0 refl in
    head_next q.early q.early_mark q.groups.items c.in-Some.head.now (omega arith) c.in-Some.ensures.lookup (sym c.is_early.ensures ∙ c.if-is_early.false)

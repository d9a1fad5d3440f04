use Rattle.std.proofs.Common.{Some, None, ap, sym, ◌∙◌, arith}
use Rattle.std.proofs.lemmas.Option.{slice_get-get_or}
use Rattle.yaml_scan.proofs.RunningQueue.EmptySlots.{held_at, none_at, empty_held, empty_more, empty_all}
use Rattle.yaml_scan.proofs.slots.count_empty.Goals as goal

pub returns-then-is_some : goal.returns-then-is_some
returns-then-is_some c = let q = held_at _ (sym c.is_some.ensures ∙ c.if-is_some.true) in
    empty_held c.loop-empty.empty c.args.slots.now q.0 c.loop-empty.invariant (slice_get-get_or c.args.slots.now c.loop-empty.empty None (omega arith) ∙ ap Some q.1)

pub loop-empty-preserved : goal.loop-empty-preserved
loop-empty-preserved c = empty_more c.loop-empty.empty c.args.slots.now c.loop-empty.invariant (slice_get-get_or c.args.slots.now c.loop-empty.empty None (omega arith) ∙ ap Some (none_at _ (sym c.is_some.ensures ∙ c.if-is_some.false)))

pub returns : goal.returns
returns c = empty_all c.loop-empty.empty c.args.slots.now c.loop-empty.invariant (omega arith)

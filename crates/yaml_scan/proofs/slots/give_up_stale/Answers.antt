use Rattle.std.proofs.Common.{◌≡◌, ℕ, ◌<◌, length, Some, ap, sym, ◌∙◌, refl, subst, arith}
use Rattle.std.specs.Prelude.{slice_get, is_some}
use Rattle.std.proofs.lemmas.Option.{slice_get_read}
use Rattle.yaml_scan.specs.inside.Slots.{AreEmptyBelow}
use Rattle.yaml_scan.proofs.RunningQueue.EmptySlots.{below_empty, empty_all, none_at, set_swept, set_empty, set_held, swept_to, swept_all}
use Rattle.yaml_scan.proofs.slots.give_up_stale.Goals as goal

pub loop-empty-init : goal.loop-empty-init
loop-empty-init c = record { long = refl; room = refl; swept = refl; below = subst (λ (n : ℕ). AreEmptyBelow n c.args.slots.now.items) (sym c.requires.empty) (below_empty c.args.slots.now.items); held = λ k h e. e }

pub returns-then-is_some : goal.returns-then-is_some
returns-then-is_some c = let v = c.loop-empty.invariant in
    let e : slice_get c.loop-empty.slots.items c.loop-empty.empty ≡ Some c.index.result.now = slice_get_read c.loop-empty.slots.items (length c.loop-empty.slots.items) c.loop-empty.empty c.index.result.now refl (omega arith) c.index.ensures in
    let q = swept_to c.args.limit c.args.mark c.args.slots.now.items c.loop-empty.slots.items c.loop-empty.empty c.index.result.now c.requires.nested v.held v.below e (ap is_some (sym c.still_held.ensures) ∙ sym c.is_some.ensures ∙ c.if-is_some.true) in
    record { slots = sym q.0 ∙ v.swept; len = v.long; capacity = v.room; empty = q.1 }

pub loop-empty-preserved : goal.loop-empty-preserved
loop-empty-preserved c = let v = c.loop-empty.invariant in
    let l : c.loop-empty.empty < length c.loop-empty.slots.items = omega arith in
    let e : slice_get c.loop-empty.slots.items c.loop-empty.empty ≡ Some c.index.result.now = slice_get_read c.loop-empty.slots.items (length c.loop-empty.slots.items) c.loop-empty.empty c.index.result.now refl l c.index.ensures in
    record {
      long = v.long;
      room = v.room;
      swept = set_swept c.args.limit c.args.mark c.loop-empty.slots.items c.loop-empty.empty c.index.result.now e (none_at _ (ap is_some (sym c.still_held.ensures) ∙ sym c.is_some.ensures ∙ c.if-is_some.false)) ∙ v.swept;
      below = set_empty c.loop-empty.empty c.loop-empty.slots.items l v.below;
      held = λ k h f. v.held k h (set_held c.loop-empty.slots.items c.loop-empty.empty k h l f);
    }

pub returns-clause-slots : goal.returns-clause-slots
returns-clause-slots c = let v = c.loop-empty.invariant in sym (swept_all c.args.limit c.args.mark c.loop-empty.slots.items c.loop-empty.empty v.below (omega arith)) ∙ v.swept

pub returns-clause-empty : goal.returns-clause-empty
returns-clause-empty c = let e = empty_all c.loop-empty.empty c.loop-empty.slots.items c.loop-empty.invariant.below (omega arith) in omega arith

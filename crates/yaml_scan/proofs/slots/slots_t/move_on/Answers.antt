use Rattle.std.proofs.Common.{ℕ, List, subst, sym, ◌∙◌, rules}
use Rattle.std.specs.Prelude.{Option}
use Rattle.yaml_scan.specs.inside.Slots.{Held, AreEmptyBelow, nested_outer}
use Rattle.yaml_scan.proofs.RunningQueue.EmptySlots.{nested_empty}
use Rattle.yaml_scan.proofs.slots.slots_t.move_on.Goals as goal

pub count_empty-empty-requires : goal.count_empty-empty-requires
count_empty-empty-requires c = let hs = c.give_up_stale-below.new.slots.items in
    subst (λ (os : List (Option Held)). AreEmptyBelow c.give_up_stale-below.result os) (sym (c.deref.ensures.value ∙ c.nest.ensures.outer))
    (subst (λ (n : ℕ). AreEmptyBelow n (nested_outer c.args.met.kind hs c.give_up.new.slot)) (sym c.give_up_stale-below.ensures.empty) (nested_empty c.args.met.kind hs c.give_up.new.slot))

pub returns-then-not-is_flow_start-clause-empty : goal.returns-then-not-is_flow_start-clause-empty
returns-then-not-is_flow_start-clause-empty c = search rules

use Rattle.std.proofs.Common.{◌+◌, ◌∙◌, ◌≤◌, ◌≡◌, ap, sym, subst, Option, Some, None, true, arith, inl, inr}
use Rattle.std.specs.Option.{is_some}
use Rattle.std.proofs.lemmas.Bool.{false≢true}
use Rattle.yaml_scan.specs.Step.{no_colon, in_simple_key}
use Rattle.yaml_scan.specs.inside.Scanner.{scanner_of}
use Rattle.yaml_scan.specs.inside.Slots.{Held}
use Rattle.yaml_text.specs.declared.types.yaml_mark_t.{yaml_mark_t}
use Rattle.yaml_text.specs.Fault.{scanner_fault}
use Rattle.yaml_scan.specs.inside.Scanning.{Offends, lost_after, met_in}
use Rattle.yaml_scan.proofs.RunningStep.TestsBefore.{allows_there}
use Rattle.yaml_scan.proofs.RunningStep.StepTests.{falls_in, gap_end_line, lost_again, near_there, stale_there}
use Rattle.yaml_scan.proofs.stop.stop_after.Goals as goal

pub stop_near-requires : goal.stop_near-requires
stop_near-requires g c = let q = c.requires.0 in let x = c.requires.1 in let b = c.requires.2 in let s = (scanner_of c.args.text.now c.args.state.now) in
    near_there g.before s q b.can x b.read (subst (λ (m : yaml_mark_t). s.near ≤ m.index) b.there c.if-state-there.true)

pub met_of-met-requires-clause-falls : goal.met_of-met-requires-clause-falls
met_of-met-requires-clause-falls g c = let b = c.requires.2 in falls_in g.before (c.args.state.now.made + 1) (scanner_of c.args.text.now c.args.state.now) b.can.can.holds

pub met_of-met-requires-clause-line : goal.met_of-met-requires-clause-line
met_of-met-requires-clause-line g c = let b = c.requires.2 in gap_end_line g.before (scanner_of c.args.text.now c.args.state.now) b.can.can.small b.can.met.gap_end

pub met_of-met-requires-clause-flow : goal.met_of-met-requires-clause-flow
met_of-met-requires-clause-flow g c = let b = c.requires.2 in sym c.requires.3 ∙ b.can.is_new.flow

pub root_after-requires : goal.root_after-requires
root_after-requires g c = let b = c.requires.2 in c.met_of-met.ensures.flow ∙ sym c.requires.3 ∙ b.can.is_new.flow

pub stop_without-requires : goal.stop_without-requires
stop_without-requires g c = let q = c.requires.0 in let x = c.requires.1 in let b = c.requires.2 in let s = (scanner_of c.args.text.now c.args.state.now) in let r = c.met_of-met.ensures in
    let kept = b.can.met.allowed ∙ sym (allows_there g.before (s.made + 1) s b.can.can.holds b.can.can.running c.args.in_flow (sym c.requires.3 ∙ b.can.is_new.flow) s.gap_end b.can.met.gap_end) ∙ sym c.is_key_allowed-allowed.ensures in (
      b.can.can,
      subst (λ (m : yaml_mark_t). Offends g.before s (scanner_fault no_colon m (Some in_simple_key) c.in-Some.held.start)) (sym b.there) (stale_there g.before s q b.can x b.read c.in-Some.held
          (lost_again s q c.met_of-met.result (c.requires.4 ∙ sym r.kind) (kept ∙ sym r.allowed) b.can.is_new (r.new c.args.text.now) s.there x.reach b.there c.root_after.result c.root_after.ensures c.lost_at.result c.lost_at.ensures ∙ c.in-Some.is)),
    )

pub unreachable-requires : goal.unreachable-requires
unreachable-requires g c = let q = c.requires.0 in let x = c.requires.1 in let b = c.requires.2 in let s = (scanner_of c.args.text.now c.args.state.now) in let r = c.met_of-met.ensures in
    let kept = b.can.met.allowed ∙ sym (allows_there g.before (s.made + 1) s b.can.can.holds b.can.can.running c.args.in_flow (sym c.requires.3 ∙ b.can.is_new.flow) s.gap_end b.can.met.gap_end) ∙ sym c.is_key_allowed-allowed.ensures in
    let none : lost_after s.limit s.slots (met_in s q) q.new x.reach ≡ None = lost_again s q c.met_of-met.result (c.requires.4 ∙ sym r.kind) (kept ∙ sym r.allowed) b.can.is_new (r.new c.args.text.now) s.there x.reach b.there c.root_after.result c.root_after.ensures c.lost_at.result c.lost_at.ensures ∙ c.in-None.is in
    elim b.stops [
      | inl n ↦ (let i = ap (λ (m : yaml_mark_t). m.index) b.there in let f = c.if-state-there.false in omega arith)
      | inr e ↦ absurd (false≢true (subst (λ (o : Option Held). is_some o ≡ true) none e))
    ]

use Rattle.std.proofs.Common.{◌+◌, ◌∙◌, arith, inl, rules, subst}
use Rattle.yaml_scan.specs.declared.state.state_t.{state_t}
use Rattle.yaml_scan.specs.inside.Scanner.{scanner_of}
use Rattle.yaml_scan.specs.inside.Scanning.{Beside, Stays}
use Rattle.yaml_scan.proofs.RunningStep.StepTests.{falls_in, gap_end_line}
use Rattle.yaml_scan.proofs.RunningStep.StepMoves.{comes_beside, ready, stays_same}
use Rattle.yaml_scan.proofs.step.begin_step.Goals as goal

pub met_of-requires-clause-falls : goal.met_of-requires-clause-falls
met_of-requires-clause-falls g c = let w = c.requires.passes in let b = subst (λ (u : state_t). Beside (scanner_of c.args.text.now u) (scanner_of c.args.text.now c.ensure_room.new.state)) c.in-Ok.ensures.1 (c.in-Ok-ensure_room.ensures c.args.text.now).1 in rw b.levels (falls_in g.before (c.args.state.now.made + 1) (scanner_of c.args.text.now c.args.state.now) w.can.holds)

pub met_of-requires-clause-line : goal.met_of-requires-clause-line
met_of-requires-clause-line g c = let w = c.requires.passes in let b = subst (λ (u : state_t). Beside (scanner_of c.args.text.now u) (scanner_of c.args.text.now c.ensure_room.new.state)) c.in-Ok.ensures.1 (c.in-Ok-ensure_room.ensures c.args.text.now).1 in let l = gap_end_line g.before (scanner_of c.args.text.now c.args.state.now) w.can.small w.gap_end in rw b.gap_end l

pub returns-in-Ok-ensure_room : goal.returns-in-Ok-ensure_room
returns-in-Ok-ensure_room g c = let s = (scanner_of c.args.text.now c.args.state.now) in let t = (scanner_of c.args.text.now c.ensure_room.new.state) in let r = c.met_of.ensures in let b = subst (λ (u : state_t). Beside (scanner_of c.args.text.now u) (scanner_of c.args.text.now c.ensure_room.new.state)) c.in-Ok.ensures.1 (c.in-Ok-ensure_room.ensures c.args.text.now).1 in
    let can = ready g.before s t c.args.in_flow c.args.kind c.requires c.in-Ok.ensures.0 b
    c.met_of.result (rw (r.flow, r.kind) (c.in-Ok-ensure_room.ensures c.args.text.now).0) r.kind (r.allowed ∙ c.is_key_allowed-allowed.ensures) (r.new c.args.text.now) r.depth in
    (can, r.kind, stays_same s t b, comes_beside g.before s t c.args.in_flow c.args.kind c.requires b can.can, b.groups)

pub met_of-requires-clause-flow : goal.met_of-requires-clause-flow
met_of-requires-clause-flow g c = let w = c.requires.passes in let b = subst (λ (u : state_t). Beside (scanner_of c.args.text.now u) (scanner_of c.args.text.now c.ensure_room.new.state)) c.in-Ok.ensures.1 (c.in-Ok-ensure_room.ensures c.args.text.now).1 in rw b.depth w.flow

pub met_of-requires-clause-made : goal.met_of-requires-clause-made
met_of-requires-clause-made g c = let w = c.requires.passes in let b = subst (λ (u : state_t). Beside (scanner_of c.args.text.now u) (scanner_of c.args.text.now c.ensure_room.new.state)) c.in-Ok.ensures.1 (c.in-Ok-ensure_room.ensures c.args.text.now).1 in let m = b.made in let f = w.can.few_steps in omega arith

pub returns-in-Err-ensure_room : goal.returns-in-Err-ensure_room
returns-in-Err-ensure_room g c = let e = c.in-Err-ensure_room.ensures c.args.text.now in
    (inl (rw c.stopped-in-Err-ensure_room.ensures e.0), (subst (λ (u : state_t). Stays (scanner_of c.args.text.now u) (scanner_of c.args.text.now c.ensure_room.new.state)) c.in-Ok.ensures.1 e.1).halts)

pub returns-in-Err : goal.returns-in-Err
returns-in-Err g c = search rules

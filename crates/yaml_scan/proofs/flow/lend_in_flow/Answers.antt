use Rattle.std.proofs.Common.{◌≡◌, ◌+◌, ◌∙◌, ◌<◌, sym, refl, arith, subst, true, false}
use Rattle.yaml_text.specs.Token.TokenData.{SCALAR}
use Rattle.yaml_lexeme.specs.LexemeOf.{part_from}
use Rattle.yaml_scan.specs.Kind.{Kind, is_candidate_kind, is_flow_start}
use Rattle.yaml_scan.specs.inside.Scanner.{scanner_of}
use Rattle.yaml_scan.proofs.RunningStep.FlowLaid.{can_lay}
use Rattle.yaml_scan.proofs.RunningStep.LentTokens.{scalar_with}
use Rattle.yaml_scan.proofs.RunningStep.StepTests.{falls_in}
use Rattle.yaml_scan.proofs.flow.lend_in_flow.Goals as goal

pub top_level-level-requires : goal.top_level-level-requires
top_level-level-requires g c = rw c.deref.ensures.value (falls_in g.before (c.args.state.now.made + 1) (scanner_of c.args.text.now c.args.state.now) c.requires.1.1.0.passes.can.holds)

pub lay_in_flow-requires : goal.lay_in_flow-requires
lay_in_flow-requires g c =
    let s = scanner_of c.args.text.now c.args.state.now in
    let b = c.usual_met-met.ensures in
    let k = b.kind ∙ c.KIND.ensures in
    let part = c.in_ok-part.part in
    let start = c.usual_met-met.result.new.start in
    let far : part.reach.index < c.args.state.now.near = (let f = c.if-state-part.false in omega arith) in
    let alone = c.requires.1.1.1.1.1 in
    let can = can_lay g.before s c.usual_met-met.result g.R.yaml_reader_t.KIND part b.can k c.in_ok-part.ensures.read alone b.flow far start in
    let candidate = subst (λ (z : Kind). is_candidate_kind z ≡ true) (sym k) c.requires.1.1.1.0 in
    let stays = subst (λ (z : Kind). is_flow_start z ≡ false) (sym k) c.requires.1.1.1.1.0 in
    ((part_from start part, ((refl, refl), can)), (candidate, (stays, (alone, (b.flow, c.has_room_for_two.ensures.room c.if-not-has_room_for_two.false)))))

pub end_scalar-requires-clause-laid : goal.end_scalar-requires-clause-laid
end_scalar-requires-clause-laid g c =
    let s = scanner_of c.args.text.now c.args.state.now in
    let b = c.usual_met-met.ensures in
    let k = b.kind ∙ c.KIND.ensures in
    let part = c.in_ok-part.part in
    let start = c.usual_met-met.result.new.start in
    let far : part.reach.index < c.args.state.now.near = (let f = c.if-state-part.false in omega arith) in
    let can = can_lay g.before s c.usual_met-met.result g.R.yaml_reader_t.KIND part b.can k c.in_ok-part.ensures.read c.requires.1.1.1.1.1 b.flow far start in
    let t = scalar_with s.alloc part.value.now c.in_ok-part.ensures.size part.style start part.end_mark in
    (c.args.text.now, g.before, s, t, sym c.lent_of.ensures, c.in_ok-laid.ensures.laid (SCALAR part.value.now part.style) start part.end_mark t can refl)

pub returns-clause-steps : goal.returns-clause-steps
returns-clause-steps g c =
    let s = scanner_of c.args.text.now c.args.state.now in
    let b = c.usual_met-met.ensures in
    let k = b.kind ∙ c.KIND.ensures in
    let part = c.in_ok-part.part in
    let start = c.usual_met-met.result.new.start in
    let far : part.reach.index < c.args.state.now.near = (let f = c.if-state-part.false in omega arith) in
    let can = can_lay g.before s c.usual_met-met.result g.R.yaml_reader_t.KIND part b.can k c.in_ok-part.ensures.read c.requires.1.1.1.1.1 b.flow far start in
    let t = scalar_with s.alloc part.value.now c.in_ok-part.ensures.size part.style start part.end_mark in
    c.end_scalar.ensures.steps c.args.text.now g.before s t (sym c.lent_of.ensures) (c.in_ok-laid.ensures.laid (SCALAR part.value.now part.style) start part.end_mark t can refl)

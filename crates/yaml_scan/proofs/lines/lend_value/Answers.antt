use Rattle.std.proofs.Common.{◌≡◌, ◌∙◌, ◌<◌, sym, refl, arith, subst, true, false}
use Rattle.yaml_text.specs.Token.TokenData.{SCALAR}
use Rattle.yaml_lexeme.specs.LexemeOf.{part_from}
use Rattle.yaml_scan.specs.Kind.{Kind, is_candidate_kind, is_flow_start}
use Rattle.yaml_scan.specs.inside.Scanner.{scanner_of}
use Rattle.yaml_scan.proofs.RunningStep.LentTokens.{scalar_with}
use Rattle.yaml_scan.proofs.RunningStep.UsualLaid.{value_can}
use Rattle.yaml_scan.proofs.lines.lend_value.Goals as goal

pub lay_value-laid-requires : goal.lay_value-laid-requires
lay_value-laid-requires g c =
    let s = scanner_of c.args.text.now c.args.state.now in
    let b = c.usual_met-met.ensures in
    let k = b.kind ∙ c.KIND.ensures in
    let allowed = b.allowed ∙ c.requires.1.1.1.1.1.1.1.1.1 in
    let part = c.in_ok-part.part in
    let start = c.usual_met-met.result.new.start in
    let far : part.reach.index < c.args.state.now.near = (let f = c.if-state-part.false in omega arith) in
    let can = value_can g.before s c.usual_met-met.result g.R.yaml_reader_t.KIND part b.can k c.in_ok-part.ensures.read c.requires.1.1.1.0 c.requires.1.1.1.1.1.0 far start allowed in
    let candidate = subst (λ (z : Kind). is_candidate_kind z ≡ true) (sym k) c.requires.1.1.1.0 in
    let stays = subst (λ (z : Kind). is_flow_start z ≡ false) (sym k) c.requires.1.1.1.1.0 in
    ((c.args.text.now, part_from start part, ((refl, refl), can)), (candidate, (stays, (c.requires.1.1.1.1.1.0, (b.flow, (allowed, rw (k, b.start) c.requires.1.1.1.1.1.1.1.0))))))

pub end_scalar-requires-clause-laid : goal.end_scalar-requires-clause-laid
end_scalar-requires-clause-laid g c =
    let s = scanner_of c.args.text.now c.args.state.now in
    let b = c.usual_met-met.ensures in
    let k = b.kind ∙ c.KIND.ensures in
    let allowed = b.allowed ∙ c.requires.1.1.1.1.1.1.1.1.1 in
    let part = c.in_ok-part.part in
    let start = c.usual_met-met.result.new.start in
    let far : part.reach.index < c.args.state.now.near = (let f = c.if-state-part.false in omega arith) in
    let can = value_can g.before s c.usual_met-met.result g.R.yaml_reader_t.KIND part b.can k c.in_ok-part.ensures.read c.requires.1.1.1.0 c.requires.1.1.1.1.1.0 far start allowed in
    let t = scalar_with s.alloc part.value.now c.in_ok-part.ensures.size part.style start part.end_mark in
    (c.args.text.now, g.before, s, t, sym c.lent_of.ensures, c.lay_value-laid.ensures.laid c.args.text.now (SCALAR part.value.now part.style) start part.end_mark t can refl)

pub returns-clause-steps : goal.returns-clause-steps
returns-clause-steps g c =
    let s = scanner_of c.args.text.now c.args.state.now in
    let b = c.usual_met-met.ensures in
    let k = b.kind ∙ c.KIND.ensures in
    let allowed = b.allowed ∙ c.requires.1.1.1.1.1.1.1.1.1 in
    let part = c.in_ok-part.part in
    let start = c.usual_met-met.result.new.start in
    let far : part.reach.index < c.args.state.now.near = (let f = c.if-state-part.false in omega arith) in
    let can = value_can g.before s c.usual_met-met.result g.R.yaml_reader_t.KIND part b.can k c.in_ok-part.ensures.read c.requires.1.1.1.0 c.requires.1.1.1.1.1.0 far start allowed in
    let t = scalar_with s.alloc part.value.now c.in_ok-part.ensures.size part.style start part.end_mark in
    c.end_scalar.ensures.steps c.args.text.now g.before s t (sym c.lent_of.ensures) (c.lay_value-laid.ensures.laid c.args.text.now (SCALAR part.value.now part.style) start part.end_mark t can refl)

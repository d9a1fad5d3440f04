use Rattle.std.proofs.Common.{◌∙◌, ◌<◌, sym, refl, ap, arith}
use Rattle.yaml_text.specs.Token.TokenData.{SCALAR}
use Rattle.yaml_text.specs.declared.types.yaml_mark_t.{yaml_mark_t}
use Rattle.yaml_lexeme.specs.LexemeOf.{lexeme_of, part_from}
use Rattle.yaml_scan.specs.inside.Scanner.{scanner_of}
use Rattle.yaml_scan.proofs.RunningStep.LentTokens.{scalar_with}
use Rattle.yaml_scan.proofs.RunningStep.UsualLaid.{key_can, key_decided, part_ends}
use Rattle.yaml_scan.proofs.lines.lend_key.Goals as goal

pub decider_at-requires : goal.decider_at-requires
decider_at-requires g c =
    let s = scanner_of c.args.text.now c.args.state.now in
    let b = c.usual_met-met.ensures in
    let k = b.kind ∙ c.KIND.ensures in
    let allowed = b.allowed ∙ c.requires.1.1.1.1.1.1.1.1.1.1.0 in
    let part = c.in_ok-part.part in
    let start = c.usual_met-met.result.new.start in
    part_ends g.before s c.usual_met-met.result g.R.yaml_reader_t.KIND part b.can k c.in_ok-part.ensures.read c.requires.1.1.1.0

pub lay_key-laid-requires : goal.lay_key-laid-requires
lay_key-laid-requires g c =
    let s = scanner_of c.args.text.now c.args.state.now in
    let b = c.usual_met-met.ensures in
    let k = b.kind ∙ c.KIND.ensures in
    let allowed = b.allowed ∙ c.requires.1.1.1.1.1.1.1.1.1.1.0 in
    let part = c.in_ok-part.part in
    let start = c.usual_met-met.result.new.start in
    let live = c.is_usual_key.ensures.live c.if-not-is_usual_key.false in
    let there = c.is_usual_key.ensures.far c.if-not-is_usual_key.false in
    let far : part.reach.index < c.args.state.now.near = (let e = ap (λ (m : yaml_mark_t). m.index) c.in_ok-colon.ensures.reach in omega arith) in
    let can = key_can g.before s c.usual_met-met.result g.R.yaml_reader_t.KIND part b.can k c.in_ok-part.ensures.read c.requires.1.1.1.0 c.requires.1.1.1.1.1.0 far start allowed live in
    let decided = key_decided g.before s c.usual_met-met.result g.R.yaml_reader_t.KIND part b.can k c.in_ok-part.ensures.read c.requires.1.1.1.0 c.requires.1.1.1.1.1.0 far start c.requires.1.1.1.1.0 allowed b.flow c.requires.1.1.1.1.1.1.1.1.1.1.1 live c.in_ok-colon.colon.kind (lexeme_of c.in_ok-colon.colon.lexeme) c.in_ok-colon.ensures.decides there in
    ((c.args.text.now, part_from start part, ((refl, refl), can, decided)), (b.flow, (rw (k, b.start) c.requires.1.1.1.1.1.1.1.0, rw b.start c.requires.1.1.1.1.1.1.1.1.0)))

pub end_scalar-requires-clause-laid : goal.end_scalar-requires-clause-laid
end_scalar-requires-clause-laid g c =
    let s = scanner_of c.args.text.now c.args.state.now in
    let b = c.usual_met-met.ensures in
    let k = b.kind ∙ c.KIND.ensures in
    let allowed = b.allowed ∙ c.requires.1.1.1.1.1.1.1.1.1.1.0 in
    let part = c.in_ok-part.part in
    let start = c.usual_met-met.result.new.start in
    let live = c.is_usual_key.ensures.live c.if-not-is_usual_key.false in
    let there = c.is_usual_key.ensures.far c.if-not-is_usual_key.false in
    let far : part.reach.index < c.args.state.now.near = (let e = ap (λ (m : yaml_mark_t). m.index) c.in_ok-colon.ensures.reach in omega arith) in
    let can = key_can g.before s c.usual_met-met.result g.R.yaml_reader_t.KIND part b.can k c.in_ok-part.ensures.read c.requires.1.1.1.0 c.requires.1.1.1.1.1.0 far start allowed live in
    let decided = key_decided g.before s c.usual_met-met.result g.R.yaml_reader_t.KIND part b.can k c.in_ok-part.ensures.read c.requires.1.1.1.0 c.requires.1.1.1.1.1.0 far start c.requires.1.1.1.1.0 allowed b.flow c.requires.1.1.1.1.1.1.1.1.1.1.1 live c.in_ok-colon.colon.kind (lexeme_of c.in_ok-colon.colon.lexeme) c.in_ok-colon.ensures.decides there in
    let t = scalar_with s.alloc part.value.now c.in_ok-part.ensures.size part.style start part.end_mark in
    (c.args.text.now, g.before, s, t, sym c.lent_of.ensures, c.lay_key-laid.ensures.laid c.args.text.now (SCALAR part.value.now part.style) start part.end_mark t can decided refl)

pub returns-clause-steps : goal.returns-clause-steps
returns-clause-steps g c =
    let s = scanner_of c.args.text.now c.args.state.now in
    let b = c.usual_met-met.ensures in
    let k = b.kind ∙ c.KIND.ensures in
    let allowed = b.allowed ∙ c.requires.1.1.1.1.1.1.1.1.1.1.0 in
    let part = c.in_ok-part.part in
    let start = c.usual_met-met.result.new.start in
    let live = c.is_usual_key.ensures.live c.if-not-is_usual_key.false in
    let there = c.is_usual_key.ensures.far c.if-not-is_usual_key.false in
    let far : part.reach.index < c.args.state.now.near = (let e = ap (λ (m : yaml_mark_t). m.index) c.in_ok-colon.ensures.reach in omega arith) in
    let can = key_can g.before s c.usual_met-met.result g.R.yaml_reader_t.KIND part b.can k c.in_ok-part.ensures.read c.requires.1.1.1.0 c.requires.1.1.1.1.1.0 far start allowed live in
    let decided = key_decided g.before s c.usual_met-met.result g.R.yaml_reader_t.KIND part b.can k c.in_ok-part.ensures.read c.requires.1.1.1.0 c.requires.1.1.1.1.1.0 far start c.requires.1.1.1.1.0 allowed b.flow c.requires.1.1.1.1.1.1.1.1.1.1.1 live c.in_ok-colon.colon.kind (lexeme_of c.in_ok-colon.colon.lexeme) c.in_ok-colon.ensures.decides there in
    let t = scalar_with s.alloc part.value.now c.in_ok-part.ensures.size part.style start part.end_mark in
    c.end_scalar.ensures.steps c.args.text.now g.before s t (sym c.lent_of.ensures) (c.lay_key-laid.ensures.laid c.args.text.now (SCALAR part.value.now part.style) start part.end_mark t can decided refl)

use Rattle.std.proofs.Common.{◌≡◌, ◌∙◌, sym, refl, subst, true, false}
use Rattle.yaml_text.specs.Token.TokenData.{SCALAR}
use Rattle.yaml_scan.specs.Kind.{Kind, is_candidate_kind, is_flow_start}
use Rattle.yaml_scan.specs.inside.Scanner.{scanner_of}
use Rattle.yaml_lexeme.specs.LexemeOf.{part_from}
use Rattle.yaml_scan.proofs.RunningStep.LentTokens.{part_can, scalar_with}
use Rattle.yaml_scan.proofs.RunningStep.StepMoves.{step_to_from}
use Rattle.yaml_scan.proofs.step.lend.Goals as goal

pub lay_lent-requires : goal.lay_lent-requires
lay_lent-requires g c =
    let b = c.in-Ok.ensures in
    let s = scanner_of c.args.text.now c.begin_step.new.state in
    let well = c.if-not-goes_well.false in
    let k = b.1 ∙ c.KIND.ensures in
    let start = c.in-Ok.met.new.start in (
      (part_from start c.in_ok-part.part, ((refl, refl), part_can g.before s c.in-Ok.met g.R.yaml_reader_t.KIND c.in_ok-part.part b.0 k c.in_ok-part.ensures.read (c.goes_well.ensures.none_lost c.args.text.now well) (c.goes_well.ensures.far well) start)),
      (
        subst (λ (z : Kind). is_candidate_kind z ≡ true) (sym k) c.requires.1.1.1.0,
        (subst (λ (z : Kind). is_flow_start z ≡ false) (sym k) c.requires.1.1.1.1.0, b.4 ∙ c.requires.1.1.1.1.1),
      ),
    )

pub end_scalar-requires-clause-laid : goal.end_scalar-requires-clause-laid
end_scalar-requires-clause-laid g c =
    let b = c.in-Ok.ensures in
    let s = scanner_of c.args.text.now c.begin_step.new.state in
    let well = c.if-not-goes_well.false in
    let k = b.1 ∙ c.KIND.ensures in
    let start = c.in-Ok.met.new.start in
    let part = c.in_ok-part.part in
    let t = scalar_with s.alloc part.value.now c.in_ok-part.ensures.size part.style start part.end_mark in
    let can = part_can g.before s c.in-Ok.met g.R.yaml_reader_t.KIND part b.0 k c.in_ok-part.ensures.read (c.goes_well.ensures.none_lost c.args.text.now well) (c.goes_well.ensures.far well) start in
    (c.args.text.now, g.before, s, t, sym c.lent_of.ensures, c.in_ok-laid.ensures.laid (SCALAR part.value.now part.style) start part.end_mark t can refl)

pub returns-clause-steps : goal.returns-clause-steps
returns-clause-steps g c =
    let b = c.in-Ok.ensures in
    let s = scanner_of c.args.text.now c.begin_step.new.state in
    let well = c.if-not-goes_well.false in
    let k = b.1 ∙ c.KIND.ensures in
    let start = c.in-Ok.met.new.start in
    let part = c.in_ok-part.part in
    let t = scalar_with s.alloc part.value.now c.in_ok-part.ensures.size part.style start part.end_mark in
    let can = part_can g.before s c.in-Ok.met g.R.yaml_reader_t.KIND part b.0 k c.in_ok-part.ensures.read (c.goes_well.ensures.none_lost c.args.text.now well) (c.goes_well.ensures.far well) start in
    let laid = c.in_ok-laid.ensures.laid (SCALAR part.value.now part.style) start part.end_mark t can refl in
    step_to_from g.before (scanner_of c.args.text.now c.args.state.now) s (scanner_of c.args.text.now c.end_scalar.new.state) _ _ _ c.end_scalar.result b.2 (c.end_scalar.ensures.steps c.args.text.now g.before s t (sym c.lent_of.ensures) laid)

use Rattle.std.proofs.Common.{◌≡◌, false, sym, subst, ◌∙◌}
use Rattle.yaml_text.specs.declared.types.yaml_mark_t.{yaml_mark_t}
use Rattle.yaml_lexeme.specs.LexemeOf.{lexeme_of}
use Rattle.yaml_lexeme.specs.Order.{is_stream_end}
use Rattle.yaml_lexeme.specs.Counted.{IsMarkOf}
use Rattle.yaml_scan.proofs.Texts.TextPlaces.{gap_ends}
use Rattle.testbench.proofs.Walks.{reaches}
use Rattle.testbench.proofs.measure.read_after.Goals as goal

pub yaml_lexeme_kind-requires : goal.yaml_lexeme_kind-requires
yaml_lexeme_kind-requires c =
    let n = c.requires.0 in
    let gap = c.yaml_gap.ensures.mark n c.requires.1 in
    let g = gap_ends c.args.text.now.chars _ _ n c.args.at c.yaml_gap.result.0 c.requires.1 gap in
    (_, g)

pub yaml_lexeme_at-requires-clause-place : goal.yaml_lexeme_at-requires-clause-place
yaml_lexeme_at-requires-clause-place c =
    let n = c.requires.0 in
    let gap = c.yaml_gap.ensures.mark n c.requires.1 in
    let g = gap_ends c.args.text.now.chars _ _ n c.args.at c.yaml_gap.result.0 c.requires.1 gap in
    (_, g, sym (c.yaml_lexeme_kind.ensures _ g) ∙ c.in-Some.is)

pub returns-in-Ok : goal.returns-in-Ok
returns-in-Ok c =
    let n = c.requires.0 in
    let gap = c.yaml_gap.ensures.mark n c.requires.1 in
    let g = gap_ends c.args.text.now.chars _ _ n c.args.at c.yaml_gap.result.0 c.requires.1 gap in
    let some : is_stream_end c.in-Some.kind ≡ false = cc in
    let kind = sym (c.yaml_lexeme_kind.ensures _ g) ∙ c.in-Some.is in
    let lexeme = lexeme_of c.in-Ok.lexeme in
    let r = reaches c.args.text.now.chars c.in-Some.kind _ _ lexeme g.within kind some (c.in-Ok.ensures.value _ g) in
    (r.0, subst (λ (m : yaml_mark_t). IsMarkOf c.args.text.now.chars m r.0) (sym c.reach.ensures) r.1)

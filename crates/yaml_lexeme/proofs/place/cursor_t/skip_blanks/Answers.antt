use Rattle.std.proofs.Common.{◌≡◌, ◌∙◌, sym, ap, arith, length, false, true}
use Rattle.yaml_lexeme.specs.Place.{Place, first, after_run}
use Rattle.yaml_lexeme.specs.declared.runs.class_t.TheVariants.{BLANK}
use Rattle.yaml_lexeme.proofs.Places.PlaceMoves.{after_none, after_run_more, class_end, length_one}
use Rattle.yaml_lexeme.specs.inside.Runs.{class_test}
use Rattle.yaml_lexeme.proofs.place.cursor_t.skip_blanks.Goals as goal

pub blanks-smaller : goal.blanks-smaller
blanks-smaller c =
    let on : class_test BLANK (first c.blanks.self) ≡ true = cc in
    let g = after_run_more (class_test BLANK) c.blanks.self on (class_end BLANK) in
    omega (arith, ap (λ (p : Place). length p.rest) c.pass.ensures, length_one c.blanks.self, g.0)

pub blanks-preserved : goal.blanks-preserved
blanks-preserved c =
    let on : class_test BLANK (first c.blanks.self) ≡ true = cc in
    let g = after_run_more (class_test BLANK) c.blanks.self on (class_end BLANK) in
    ap (λ (p : Place). after_run (class_test BLANK) p) c.pass.ensures ∙ sym g.1 ∙ c.blanks.invariant

pub returns : goal.returns
returns c =
    let off : class_test BLANK (first c.blanks.self) ≡ false = cc in
    sym (after_none (class_test BLANK) c.blanks.self off) ∙ c.blanks.invariant

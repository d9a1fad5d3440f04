use Rattle.std.proofs.Common.{◌≡◌, ◌∙◌, sym, ap, arith}
use Rattle.yaml_lexeme.proofs.Readers.GapLines.{gap_feed}
use Rattle.yaml_lexeme.specs.Place.{first, skip, after_run}
use Rattle.yaml_lexeme.specs.inside.Runs.{class_test}
use Rattle.yaml_lexeme.specs.declared.runs.class_t.TheVariants.{SPACE}
use Rattle.yaml_lexeme.proofs.gap.after_feed.Goals as goal

pub returns-then-is_solid : goal.returns-then-is_solid
returns-then-is_solid c =
    let p = c.args.cursor.now in
    let q = c.skip_all_spaces.new.self in
    let feed : first p ≡ 10 = omega (arith, c.peek.ensures) in
    let at : q ≡ after_run (class_test SPACE) (skip 1 p) = c.skip_all_spaces.ensures ∙ ap (after_run (class_test SPACE)) (c.pass_feed.ensures ∙ ap (skip 1) c.again-next.ensures) in
    gap_feed p q feed at (sym c.is_solid.ensures ∙ c.if-is_solid.true)

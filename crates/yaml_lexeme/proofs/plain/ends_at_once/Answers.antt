use Rattle.std.proofs.Common.{◌≡◌, ◌∙◌, true, false, sym, ap, arith, rules}
use Rattle.yaml_lexeme.proofs.Places.PlaceMoves.{after_none}
use Rattle.yaml_lexeme.proofs.Readers.PlainLinks.{link_none}
use Rattle.yaml_lexeme.proofs.Readers.PlainLines.{over_below, passed_feed}
use Rattle.yaml_lexeme.specs.Classes.{is_white}
use Rattle.yaml_lexeme.specs.Place.{first, skip, after_run}
use Rattle.yaml_lexeme.specs.inside.Runs.{class_test}
use Rattle.yaml_lexeme.specs.declared.runs.class_t.TheVariants.{SPACE}
use Rattle.yaml_lexeme.proofs.plain.ends_at_once.Goals as goal

pub returns-else-is_white-clause-over : goal.returns-else-is_white-clause-over
returns-else-is_white-clause-over c =
    let p = c.args.cursor.now in
    let none : is_white (first p) ≡ false = cc in
    link_none c.args.in_flow c.args.least p none

pub returns-else-is_white-clause-end : goal.returns-else-is_white-clause-end
returns-else-is_white-clause-end c =
    let p = c.args.cursor.now in
    let none : is_white (first p) ≡ false = cc in
    sym (after_none is_white p none)

pub returns : goal.returns
returns c =
    let p = c.args.cursor.now in
    let q = c.skip_all_spaces.new.self in
    let feed : first p ≡ 10 = omega (arith, c.peek-c.ensures) in
    let at : q ≡ after_run (class_test SPACE) (skip 1 p) = c.skip_all_spaces.ensures ∙ ap (after_run (class_test SPACE)) (c.pass_feed.ensures ∙ ap (skip 1) c.again-next.ensures) in
    let yes : c.ends_before.result ≡ true = cc in
    let t = over_below c.args.in_flow c.args.least p q feed at (c.ends_before.ensures yes) in
    record { over = t.0; end = t.1; broken = sym (passed_feed p feed); stays = search rules }

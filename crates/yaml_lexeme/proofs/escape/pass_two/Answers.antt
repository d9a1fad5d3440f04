use Rattle.std.proofs.Common.{◌∙◌, ap, arith}
use Rattle.yaml_text.specs.Classes.{is_break}
use Rattle.yaml_lexeme.specs.Place.{Place, first, skip}
use Rattle.yaml_lexeme.proofs.Places.PlaceMoves.{first_on, skip_skip}
use Rattle.yaml_lexeme.proofs.escape.pass_two.Goals as goal

pub pass-requires-2-clause-some : goal.pass-requires-2-clause-some
pass-requires-2-clause-some c =
    let here = ap (λ (p : Place). first p) c.pass.ensures ∙ first_on 1 c.args.cursor.now in
    omega (arith, here)

pub pass-requires-2-clause-ascii : goal.pass-requires-2-clause-ascii
pass-requires-2-clause-ascii c =
    let here = ap (λ (p : Place). first p) c.pass.ensures ∙ first_on 1 c.args.cursor.now in
    omega (arith, here)

pub pass-requires-2-clause-inside : goal.pass-requires-2-clause-inside
pass-requires-2-clause-inside c =
    let here = ap (λ (p : Place). first p) c.pass.ensures ∙ first_on 1 c.args.cursor.now in
    ap is_break here ∙ c.requires.inside

pub returns : goal.returns
returns c = c.pass-2.ensures ∙ ap (λ (p : Place). skip 1 p) c.pass.ensures ∙ skip_skip 1 1 c.args.cursor.now

use Rattle.std.proofs.Common.{◌≡◌, ◌∙◌, sym, ap, arith}
use Rattle.std.specs.Char.{digit_value}
use Rattle.yaml_lexeme.specs.Place.{Place, first, peek, skip}
use Rattle.yaml_lexeme.proofs.Places.PlaceMoves.{skip_none, skip_skip, first_on}
use Rattle.yaml_lexeme.proofs.Readers.EscapeDigits.{digit_passes}
use Rattle.yaml_lexeme.proofs.escape.pass_four.Goals as goal

pub digits-init : goal.digits-init
digits-init c = sym (skip_none c.args.cursor.now)

pub pass-requires : goal.pass-requires
pass-requires c =
    let p = c.args.cursor.now in
    let d = c.digits in
    let here : first d.cursor ≡ peek p d.k = ap (λ (x : Place). first x) d.invariant ∙ first_on d.k p in
    digit_passes (first d.cursor) (omega (arith, ap digit_value here, c.requires d.k c.digits-test.true))

pub digits-preserved : goal.digits-preserved
digits-preserved c =
    let d = c.digits in
    c.pass.ensures ∙ ap (λ (x : Place). skip 1 x) d.invariant ∙ skip_skip d.k 1 c.args.cursor.now

pub returns : goal.returns
returns c =
    let d = c.digits in
    d.invariant ∙ ap (λ i. skip i c.args.cursor.now) (omega (arith, d.auto.k-end, c.digits-test.false))

use Rattle.std.proofs.Common.{ap, length, rules, ◌<◌, ◌^◌, arith}
use Rattle.std.proofs.lemmas.List.{length-drop}
use Rattle.yaml_lexeme.proofs.Places.CursorMoves.{finds}
use Rattle.yaml_lexeme.proofs.place.cursor_t.at.Goals as goal

pub rest-requires : goal.rest-requires
rest-requires c = (finds _ _ _ _ c.bytes.ensures.utf8 c.bytes.ensures.characters c.requires.1).within

pub invariant_of-result : goal.invariant_of-result
invariant_of-result c =
    let f = finds _ _ _ _ c.bytes.ensures.utf8 c.bytes.ensures.characters c.requires.1 in
    rw c.rest.ensures (f.text, omega (arith, f.within, length-drop c.args.mark.index c.bytes.result.now), f.sums)

pub returns-clause-place : goal.returns-clause-place
returns-clause-place c =
    λ n at. let f = finds _ _ _ n c.bytes.ensures.utf8 c.bytes.ensures.characters at in rw c.rest.ensures f.place

pub returns-clause-size : goal.returns-clause-size
returns-clause-size c =
    let fits : length c.bytes.result.now < 2 ^ 63 = search rules in
    omega (arith, ap length c.bytes.ensures.utf8)

use Rattle.std.proofs.Common.{◌<◌, ◌≤◌, ◌∙◌, length, arith, ap, sym, ℕ, List}
use Rattle.std.proofs.lemmas.Grind.{common_steps}
use Rattle.yaml_lexeme.specs.Place.{Place}
use Rattle.yaml_lexeme.proofs.Places.PlaceMoves.{stays}
use Rattle.yaml_lexeme.proofs.Places.CursorMoves.{ascii_here, passes_here}
use Rattle.yaml_lexeme.proofs.Places.FirstCharacters.{head, none_left}
use Rattle.yaml_lexeme.proofs.place.cursor_t.advance.Goals as goal

pub returns-then-is_empty : goal.returns-then-is_empty
returns-then-is_empty c =
    let none : length c.self.inside.bytes.now ≤ 0 = grind (arith, common_steps) in
    let e = ap (λ (p : Place). length p.rest) c.self.view_is in
    let n = ap (λ (x : List ℕ). length x) (none_left c.self.inside.bytes.now c.self.invariant.0 none) in
    stays 1 _ (omega (arith, e, n))

pub pass_feed-requires : goal.pass_feed-requires
pass_feed-requires c =
    let here = ascii_here c.self.inside.mark c.self.inside.bytes.now c.args.self.now c.self.invariant.0 c.self.view_is (omega arith) in
    sym here ∙ c.if-b-eq10.true

pub pass-requires : goal.pass-requires
pass-requires c =
    let some : 0 < length c.self.inside.bytes.now = grind (arith, common_steps) in
    passes_here c.self.inside.mark c.self.inside.bytes.now c.args.self.now c.self.invariant.0 c.self.view_is some c.if-b-lt128.true c.if-b-eq10.false c.if-b-ne13.true

pub advance_far-requires : goal.advance_far-requires
advance_far-requires c =
    let some : 0 < length c.self.inside.bytes.now = grind (arith, common_steps) in
    let h = head c.self.inside.bytes.now c.self.invariant.0 some in
    omega (arith, h.some, ap (λ (p : Place). length p.rest) c.self.view_is)

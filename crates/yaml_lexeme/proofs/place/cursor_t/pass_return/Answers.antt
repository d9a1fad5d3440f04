use Rattle.std.proofs.Common.{◌∙◌, arith, ap}
use Rattle.std.proofs.lemmas.List.{length-drop}
use Rattle.yaml_lexeme.specs.Place.{Place, skip}
use Rattle.yaml_lexeme.proofs.Places.CursorMoves.{return_moves}
use Rattle.yaml_lexeme.proofs.place.cursor_t.pass_return.Goals as goal

pub overflow_add-self : goal.overflow_add-self
overflow_add-self c =
    let m = return_moves c.self.inside.mark c.self.inside.bytes.now c.args.self.now c.self.invariant.0 c.self.view_is c.requires.here c.requires.feed in
    omega (arith, m.0.some, c.self.invariant.1)

pub overflow_add-self-2 : goal.overflow_add-self-2
overflow_add-self-2 c =
    let m = return_moves c.self.inside.mark c.self.inside.bytes.now c.args.self.now c.self.invariant.0 c.self.view_is c.requires.here c.requires.feed in
    omega (arith, m.0.some, c.self.invariant.1, c.self.invariant.2)

pub rest-self-inside-requires : goal.rest-self-inside-requires
rest-self-inside-requires c =
    let m = return_moves c.self.inside.mark c.self.inside.bytes.now c.args.self.now c.self.invariant.0 c.self.view_is c.requires.here c.requires.feed in
    omega (arith, m.0.some)

pub invariant_of-self : goal.invariant_of-self
invariant_of-self c =
    let m = return_moves c.self.inside.mark c.self.inside.bytes.now c.args.self.now c.self.invariant.0 c.self.view_is c.requires.here c.requires.feed in
    rw c.rest-self-inside.ensures (m.1.text, omega (arith, m.0.some, length-drop 1 c.self.inside.bytes.now, c.self.invariant.1), omega (arith, c.self.invariant.2))

pub returns : goal.returns
returns c =
    let m = return_moves c.self.inside.mark c.self.inside.bytes.now c.args.self.now c.self.invariant.0 c.self.view_is c.requires.here c.requires.feed in
    rw c.rest-self-inside.ensures (m.1.place ∙ ap (λ (p : Place). skip 1 p) c.self.view_is)

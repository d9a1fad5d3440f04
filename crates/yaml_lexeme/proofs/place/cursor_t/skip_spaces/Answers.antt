use Rattle.std.proofs.Common.{◌≡◌, ◌∙◌, min, ap, arith}
use Rattle.std.proofs.lemmas.List.{length-drop}
use Rattle.yaml_lexeme.specs.Place.{run_len, skip}
use Rattle.yaml_lexeme.specs.inside.Runs.{class_test}
use Rattle.yaml_lexeme.specs.declared.runs.class_t.TheVariants.{SPACE}
use Rattle.yaml_lexeme.proofs.Places.CursorMoves.{SpaceMove, space_moves, spaces_here}
use Rattle.yaml_lexeme.proofs.place.cursor_t.skip_spaces.Goals as goal
use Rattle.yaml_lexeme.proofs.place.cursor_t.skip_spaces.Goals.{After-min-n}

moved : (c : After-min-n) → (c.min-n.result ≡ min (run_len (class_test SPACE) c.args.self.now) c.args.most) × SpaceMove c.self.inside.mark c.self.inside.bytes.now c.args.self.now c.min-n.result
moved c = space_moves c.self.inside.mark c.self.inside.bytes.now c.args.self.now c.spaces_len.result c.args.most c.min-n.result c.self.invariant.0 c.self.view_is c.spaces_len.ensures c.min-n.ensures

pub overflow_add-self : goal.overflow_add-self
overflow_add-self c = omega (arith, (moved (goal.at.overflow_add-self c).After-min-n).1.within, c.self.invariant.1)

pub overflow_add-self-2 : goal.overflow_add-self-2
overflow_add-self-2 c = omega (arith, (moved (goal.at.overflow_add-self-2 c).After-min-n).1.within, c.self.invariant.1, c.self.invariant.2)

pub rest-self-inside-requires : goal.rest-self-inside-requires
rest-self-inside-requires c = (moved (goal.at.rest-self-inside-requires c).After-min-n).1.within

pub invariant_of-self : goal.invariant_of-self
invariant_of-self c =
    let w = (moved (goal.at.invariant_of-self c).After-min-n).1 in
    rw c.rest-self-inside.ensures (w.text, omega (arith, w.within, c.self.invariant.1, length-drop c.min-n.result c.self.inside.bytes.now), omega (arith, c.self.invariant.2))

pub returns-clause-value : goal.returns-clause-value
returns-clause-value c =
    let w = moved (goal.at.returns-clause-value c).After-min-n in
    rw c.rest-self-inside.ensures (w.1.place ∙ ap (λ i. skip i c.args.self.now) w.0)

pub returns-clause-room : goal.returns-clause-room
returns-clause-room c = omega (arith, c.spaces_len.type_inv, spaces_here c.self.inside.mark c.self.inside.bytes.now c.args.self.now c.spaces_len.result c.self.invariant.0 c.self.view_is c.spaces_len.ensures)

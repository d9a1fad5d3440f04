use Rattle.std.proofs.Common.{◌<◌, ◌∙◌, ap, arith, drop}
use Rattle.std.proofs.lemmas.List.{length-drop}
use Rattle.yaml_lexeme.specs.inside.Moves.{feed_width}
use Rattle.yaml_lexeme.proofs.Places.FedLines.{FedMove, fed_moves}
use Rattle.yaml_lexeme.proofs.place.cursor_t.take_fed_line.Goals as goal
use Rattle.yaml_lexeme.proofs.place.cursor_t.take_fed_line.Goals.{After-rest-self-inside}

moved : (c : After-rest-self-inside) → FedMove c.self.inside.mark c.self.inside.bytes.now c.args.self.now c.line_len-n.result c.feed_width-width.result
moved c =
    let some : 0 < c.feed_width-width.result = omega (arith, c.if-width-eq0.false) in
    fed_moves c.self.inside.mark c.self.inside.bytes.now c.args.self.now c.line_len-n.result c.feed_width-width.result c.self.invariant.0 c.self.view_is c.line_len-n.ensures.clear c.line_len-n.ensures.bound (c.feed_width-width.ensures ∙ ap feed_width c.rest-left.ensures) some

pub invariant_of-self : goal.invariant_of-self
invariant_of-self c =
    let m = moved (goal.at.invariant_of-self c).After-rest-self-inside in
    let n = c.line_len-n.result in
    let s = c.self.inside.bytes.now in
    rw (c.rest-self-inside.ensures, c.rest-left.ensures)
    (m.text, omega (arith, m.within, length-drop c.feed_width-width.result (drop n s), length-drop n s, c.self.invariant.1), omega (arith, c.if-width-eq0.false, c.self.invariant.2))

pub returns-clause-taken : goal.returns-clause-taken
returns-clause-taken c = rw (c.rest-self-inside.ensures, c.rest-left.ensures) (moved (goal.at.returns-clause-taken c).After-rest-self-inside).line

use Rattle.std.proofs.Common.{◌≡◌, ◌<◌, ◌∙◌, sym, eqb-true, get_or, arith}
use Rattle.yaml_lexeme.proofs.Places.CursorMoves.{ascii_here}
use Rattle.yaml_lexeme.proofs.place.cursor_t.begins_with.Goals as goal

pub returns-then-not-is_empty : goal.returns-then-not-is_empty
returns-then-not-is_empty c = λ same.
    let bytes = c.self.inside.bytes.now in
    let is : get_or bytes 0 0 ≡ c.args.byte = eqb-true _ _ same in
    let low : get_or bytes 0 0 < 128 = omega (arith, is, c.requires) in
    sym (ascii_here c.self.inside.mark bytes c.args.self.now c.self.invariant.0 c.self.view_is low) ∙ is

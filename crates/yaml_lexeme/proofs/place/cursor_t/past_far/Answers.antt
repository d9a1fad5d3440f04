use Rattle.std.proofs.Common.{◌∙◌, length, arith, ap, ℕ}
use Rattle.std.specs.Char.{len_utf8}
use Rattle.yaml_lexeme.specs.Place.{Place}
use Rattle.yaml_lexeme.specs.inside.Moves.{mark_after}
use Rattle.yaml_lexeme.proofs.Places.PlaceMoves.{moved}
use Rattle.yaml_text.specs.declared.types.yaml_mark_t.{yaml_mark_t}
use Rattle.yaml_lexeme.proofs.Places.CursorMoves.{index_after}
use Rattle.yaml_lexeme.proofs.Places.FirstCharacters.{head, some_bytes, shrinks}
use Rattle.yaml_lexeme.proofs.place.cursor_t.past_far.Goals as goal

pub returns : goal.returns
returns c =
    let some = some_bytes c.self.inside.bytes.now c.self.invariant.0 (omega (arith, c.requires, ap (λ (p : Place). length p.rest) c.self.view_is)) in
    let h = head c.self.inside.bytes.now c.self.invariant.0 some in
    moved _ _ _ _ _ _ c.self.view_is h.some c.peek-next.ensures
    (c.mark_after.ensures.value ∙ ap (λ (x : ℕ). mark_after c.self.inside.mark x c.peek-next.result) c.first_char-c.ensures)
    c.past_char.ensures.rest

pub mark_after-requires-clause-index : goal.mark_after-requires-clause-index
mark_after-requires-clause-index c =
    let some = some_bytes c.self.inside.bytes.now c.self.invariant.0 (omega (arith, c.requires, ap (λ (p : Place). length p.rest) c.self.view_is)) in
    let h = head c.self.inside.bytes.now c.self.invariant.0 some in
    omega (arith, h.within, ap len_utf8 c.first_char-c.ensures, c.self.invariant.1)

pub invariant_of-result : goal.invariant_of-result
invariant_of-result c =
    let some = some_bytes c.self.inside.bytes.now c.self.invariant.0 (omega (arith, c.requires, ap (λ (p : Place). length p.rest) c.self.view_is)) in
    let s = shrinks c.self.inside.bytes.now c.past_char.result.now c.self.invariant.0 c.past_char.ensures.text c.past_char.ensures.rest some in
    let i = index_after c.self.inside.mark c.first_char-c.result c.peek-next.result in
    (c.past_char.ensures.text, omega (arith, s, ap len_utf8 c.first_char-c.ensures, i, ap (λ (m : yaml_mark_t). m.index) c.mark_after.ensures.value, c.self.invariant.1), c.mark_after.ensures.sums)

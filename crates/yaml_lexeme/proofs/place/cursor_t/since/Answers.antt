use Rattle.std.proofs.Common.{◌≡◌, ◌∙◌, sym, ap}
use Rattle.yaml_text.specs.Chars.{utf8}
use Rattle.yaml_lexeme.specs.Place.{Place}
use Rattle.yaml_lexeme.proofs.Places.CursorMoves.{skip_bytes}
use Rattle.yaml_lexeme.proofs.place.cursor_t.since.Goals as goal

pub overflow_sub-start-inside : goal.overflow_sub-start-inside
overflow_sub-start-inside c =
    let whole : c.start.inside.bytes.now ≡ utf8 c.args.start.now.rest = sym c.start.invariant.0.spelled ∙ ap (λ (p : Place). utf8 p.rest) c.start.view_is in
    let left : c.self.inside.bytes.now ≡ utf8 c.args.self.now.rest = sym c.self.invariant.0.spelled ∙ ap (λ (p : Place). utf8 p.rest) c.self.view_is in
    (skip_bytes c.requires.0 c.args.start.now c.args.self.now _ _ c.requires.1 whole left).0

pub returns : goal.returns
returns c = λ n e.
    let whole : c.start.inside.bytes.now ≡ utf8 c.args.start.now.rest = sym c.start.invariant.0.spelled ∙ ap (λ (p : Place). utf8 p.rest) c.start.view_is in
    let left : c.self.inside.bytes.now ≡ utf8 c.args.self.now.rest = sym c.self.invariant.0.spelled ∙ ap (λ (p : Place). utf8 p.rest) c.self.view_is in
    c.first_bytes.ensures ∙ (skip_bytes n c.args.start.now c.args.self.now _ _ e whole left).1

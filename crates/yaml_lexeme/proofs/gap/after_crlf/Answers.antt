use Rattle.std.proofs.Common.{◌≡◌, ◌∙◌, true, sym, subst}
use Rattle.yaml_lexeme.proofs.Places.PlaceMoves.{feed_break}
use Rattle.yaml_lexeme.proofs.Readers.GapLines.{gap_break}
use Rattle.yaml_lexeme.specs.Decider.{IsGap}
use Rattle.yaml_lexeme.specs.Place.{Place, first, peek}
use Rattle.yaml_lexeme.specs.inside.Moves.{is_feed}
use Rattle.yaml_lexeme.proofs.gap.after_crlf.Goals as goal

pub returns-then-is_solid : goal.returns-then-is_solid
returns-then-is_solid c =
    let q = c.again-next.result in
    let s = c.take_feed_and_spaces.new.self in
    let yes = c.if-take_feed_and_spaces.true in
    let here : is_feed (first q) (peek q 1) ≡ true = sym c.take_feed_and_spaces.ensures.here ∙ yes in
    let g : IsGap q s true = gap_break q s (feed_break (first q) (peek q 1) here) (c.take_feed_and_spaces.ensures.taken yes) (sym c.is_solid.ensures ∙ c.if-is_solid.true) in
    subst (λ (p : Place). IsGap p s true) c.again-next.ensures g

-- The two last digits follow the others, and these follow a space.
use Rattle.std.proofs.Common.{◌≡◌, ◌++◌, ◌∷◌, ◌/◌, ◌%◌, ℕ, List, take, ap, ◌∙◌}
use Rattle.std.specs.Fmt.{decimal}
use Rattle.yaml_listing.specs.inside.Put.{pair_text}
use Rattle.yaml_listing.proofs.Digits.{pair_last}
use Rattle.yaml_listing.proofs.Placed.{then_placed}
use Rattle.yaml_listing.proofs.mark.kept_mark_t.set_index.Goals as goal

pub returns-then-index-ge100-clause-text : goal.returns-then-index-ge100-clause-text
returns-then-index-ge100-clause-text c =
    let n = c.args.index in
    let at = c.args.at in
    let b = c.args.buffer.now in
    let first = take at b in
    let hundreds : take c.set-end.result c.set-end.new.buffer ≡ first ++ (32 ∷ decimal (n / 100)) =
    c.set-end.ensures.text ∙ ap (λ (x : ℕ). first ++ (x ∷ decimal (n / 100))) c.args.self.now.space in
    then_placed at c.set-end.result c.set_two.result b c.set-end.new.buffer c.set_two.new.buffer
    (32 ∷ decimal (n / 100)) (pair_text (n % 100)) hundreds c.set_two.ensures.text
    ∙ ap (λ (z : List ℕ). first ++ (32 ∷ z)) (pair_last n c.if-index-ge100.true c.ranges.index.fits)

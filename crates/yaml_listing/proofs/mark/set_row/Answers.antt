use Rattle.std.proofs.Common.{◌++◌, ◌+◌, ◌-◌, ℕ, List, take, drop, ap, ◌∙◌, arith}
use Rattle.yaml_listing.proofs.Placed.{row_placed}
use Rattle.yaml_listing.proofs.mark.set_row.Goals as goal

pub returns-clause-text : goal.returns-clause-text
returns-clause-text c =
    let at = c.args.at in
    let row = c.args.row.now in
    let b = c.args.buffer.now in
    let rest = drop (at + 24 - at) (drop at b) in
    ap (λ (z : List ℕ). take (at + c.args.len) (take at b ++ (z ++ rest))) c.copy_from_slice.ensures.after
    ∙ row_placed at c.args.len row b rest (omega (arith, c.requires.short)) (omega (arith, c.requires.room))

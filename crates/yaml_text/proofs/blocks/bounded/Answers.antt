use Rattle.std.proofs.Common.{◌∙◌, ◌&&◌, leb, ltb, get_or}
use Rattle.yaml_text.specs.inside.Windows.{is_bounded}
use Rattle.yaml_text.proofs.ManyBytes.WindowLanes.{Values, both, selected, length-windows, splat_value, compared_values, chosen, same_lanes}
use Rattle.yaml_text.proofs.ManyBytes.NarrowLanes.{lift, bounded_four}
use Rattle.yaml_text.proofs.blocks.bounded.Goals as goal

pub returns : goal.returns
returns c = λ ts one two three four.
    let long = length-windows 0 16 ts c.args.a one c.fits-a.0 in
    let a : Values ts (λ t. lift (get_or t 0 0)) c.lifted.result = record { is = c.lifted.ensures 0 ts one } in
    let b : Values ts (λ t. lift (get_or t 16 0)) c.lifted-2.result = record { is = c.lifted-2.ensures 16 ts two } in
    let d : Values ts (λ t. lift (get_or t 32 0)) c.lifted-3.result = record { is = c.lifted-3.ensures 32 ts three } in
    let e : Values ts (λ t. lift (get_or t 48 0)) c.lifted-4.result = record { is = c.lifted-4.ensures 48 ts four } in
    let front = chosen ts (compared_values ltb ts a b) a b in
    let after = chosen ts (compared_values ltb ts d e) d e in
    let least = chosen ts (compared_values ltb ts front after) front after in
    let most : Values ts _ c.greatest.result = record { is = c.greatest.ensures ts one two three four } in
    let test = both ts (compared_values ltb ts most (splat_value 0xE0 16 ts long)) (compared_values leb ts (splat_value 0x20 16 ts long) least) in
    selected 16 ts long test ∙ same_lanes 0 _ (λ t. (is_bounded (get_or t 0 0) && is_bounded (get_or t 16 0)) && (is_bounded (get_or t 32 0) && is_bounded (get_or t 48 0))) ts c.args.a one c.fits-a.1 (λ t lt. bounded_four (get_or t 0 0) (get_or t 16 0) (get_or t 32 0) (get_or t 48 0))

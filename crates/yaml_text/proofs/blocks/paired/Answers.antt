use Rattle.std.proofs.Common.{ℕ, ◌∙◌, leb, eqb, ltb, not, get_or}
use Rattle.yaml_text.specs.inside.Windows.{is_paired}
use Rattle.yaml_text.proofs.ManyBytes.WindowLanes.{compared, compared_left, both, selected, length-windows, column_value, splat_value, joined_values, compared_values, chosen, same_lanes}
use Rattle.yaml_text.proofs.ManyBytes.NarrowLanes.{minus, paired_at}
use Rattle.yaml_text.proofs.blocks.paired.Goals as goal

pub returns : goal.returns
returns c = λ d e ts is next.
    let long = length-windows d 16 ts c.args.a is c.fits-a.0 in
    let a = column_value d ts is in
    let most = λ (y : ℕ). splat_value y 16 ts long in
    let above = chosen ts (compared_values ltb ts (most 195) a) a (most 195) in
    let gap = joined_values minus ts above a in
    let below = chosen ts (compared_values ltb ts gap (most 4)) gap (most 4) in
    let continues = both ts (compared_left leb e 0x80 16 ts c.args.b next c.fits-b.0) (compared leb e 0xBF 16 ts c.args.b next c.fits-b.0) in
    let wanted = chosen ts continues (most 0) (most 4) in
    let test = both ts (compared_values eqb ts below wanted) (compared (λ x z. not (eqb x z)) d 0x7F 16 ts c.args.a is c.fits-a.0) in
    selected 16 ts long test ∙ same_lanes d _ (λ t. is_paired (get_or t d 0) (get_or t e 0)) ts c.args.a is c.fits-a.1 (λ t lt. paired_at (get_or t d 0) (get_or t e 0) lt)

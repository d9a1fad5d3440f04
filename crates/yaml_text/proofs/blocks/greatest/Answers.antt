use Rattle.std.proofs.Common.{◌∙◌, ltb, max, get_or, ap₂}
use Rattle.yaml_text.proofs.ManyBytes.WindowLanes.{column_value, compared_values, chosen, same_values}
use Rattle.yaml_text.proofs.ManyBytes.NarrowLanes.{larger}
use Rattle.yaml_text.proofs.blocks.greatest.Goals as goal

pub returns : goal.returns
returns c = λ ts one two three four.
    let a = column_value 0 ts one in
    let b = column_value 16 ts two in
    let front = chosen ts (compared_values ltb ts a b) b a in
    let d = column_value 32 ts three in
    let e = column_value 48 ts four in
    let after = chosen ts (compared_values ltb ts d e) e d in
    (chosen ts (compared_values ltb ts front after) after front).is ∙ same_values _ _ ts (λ t. larger _ _ ∙ ap₂ max (larger (get_or t 0 0) (get_or t 16 0)) (larger (get_or t 32 0) (get_or t 48 0)))

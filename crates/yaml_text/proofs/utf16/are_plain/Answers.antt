use Rattle.std.proofs.Common.{arith, eqb-true}
use Rattle.std.proofs.lemmas.List.Sums.{prefix_len_passes}
use Rattle.yaml_text.specs.inside.Singles.{is_single}
use Rattle.yaml_text.proofs.ManyBytes.UnitRuns.{all_single}
use Rattle.yaml_text.proofs.utf16.are_plain.Goals as goal

pub returns : goal.returns
returns c = λ none k lt.
    let v = c.stand_ins.result in
    let all = all_single v c.others.result c.others.ensures (eqb-true _ _ none) in
    rw (c.halves.ensures.units k lt) (c.stand_ins.ensures.units k lt (prefix_len_passes is_single v k 0 (omega (arith, all, c.stand_ins.ensures.long))))

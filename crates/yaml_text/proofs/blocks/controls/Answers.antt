use Rattle.std.proofs.Common.{ℕ, ltb, eqb, not}
use Rattle.yaml_text.proofs.ManyBytes.WindowLanes.{compared, both, either, selected, length-windows}
use Rattle.yaml_text.proofs.blocks.controls.Goals as goal

pub returns : goal.returns
returns c = λ ts is.
    let a = c.args.a in
    let long = c.fits-a.0 in
    let apart = λ (y : ℕ). compared (λ x z. not (eqb x z)) 0 y 16 ts a is long in
    selected 16 ts (length-windows 0 16 ts a is long)
    (either ts (both ts (compared ltb 0 0x20 16 ts a is long) (both ts (apart 10) (both ts (apart 9) (apart 13)))) (compared eqb 0 0x7F 16 ts a is long))

use Rattle.std.proofs.Common.{eqb}
use Rattle.yaml_text.proofs.ManyBytes.WindowLanes.{compared, length-windows, column_value, splat_value, chosen}
use Rattle.yaml_text.proofs.blocks.lifted.Goals as goal

pub returns : goal.returns
returns c = λ d ts is.
    let long = length-windows d 16 ts c.args.a is c.fits-a.0 in
    (chosen ts (compared eqb d 10 16 ts c.args.a is c.fits-a.0) (splat_value 255 16 ts long) (column_value d ts is)).is

use Rattle.std.proofs.Common.{leb}
use Rattle.yaml_text.proofs.ManyBytes.WindowLanes.{compared, compared_left, both, either, one_of_two, selected, length-windows}
use Rattle.yaml_text.proofs.blocks.misplaced.Goals as goal

pub returns : goal.returns
returns c = λ ts one two three four.
    let is = both ts (compared_left leb 3 0x80 16 ts c.args.d four c.fits-d.0) (compared leb 3 0xBF 16 ts c.args.d four c.fits-d.0) in
    let awaited = either ts (compared_left leb 2 0xC0 16 ts c.args.c three c.fits-c.0) (either ts (compared_left leb 1 0xE0 16 ts c.args.b two c.fits-b.0) (compared_left leb 0 0xF0 16 ts c.args.a one c.fits-a.0)) in
    selected 16 ts (length-windows 0 16 ts c.args.a one c.fits-a.0) (one_of_two ts is awaited)

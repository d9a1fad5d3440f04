use Rattle.yaml_text.proofs.ManyBytes.AsciiLanes.{joined_unit}
use Rattle.yaml_text.proofs.utf16.units.Goals as goal

pub returns-clause-units : goal.returns-clause-units
returns-clause-units c = λ k lt. joined_unit c.args.low c.args.high k c.fits-low.0 c.fits-low.1 c.fits-high.1 lt

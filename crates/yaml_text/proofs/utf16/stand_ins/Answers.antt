use Rattle.yaml_text.proofs.ManyBytes.UnitLanes.{AreHalves, length-halves, length-lanes, shown_lanes, char_at}
use Rattle.yaml_text.proofs.utf16.stand_ins.Goals as goal

pub returns-clause-long : goal.returns-clause-long
returns-clause-long c =
    let are : AreHalves c.args.low c.args.high = (c.fits-low, c.fits-high) in
    length-lanes _ 16 (length-halves c.args.low c.args.high are) (shown_lanes c.args.low c.args.high are)

pub returns-clause-units : goal.returns-clause-units
returns-clause-units c = λ k lt h. char_at c.args.low c.args.high k (c.fits-low, c.fits-high) lt h

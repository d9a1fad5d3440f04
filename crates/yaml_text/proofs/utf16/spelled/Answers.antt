use Rattle.std.proofs.Common.{arith}
use Rattle.std.proofs.lemmas.Simd.{Each2-splat, Each1-all}
use Rattle.yaml_text.proofs.ManyBytes.UnitLanes.{AreHalves, are_spelled, length-halves, length-lanes, spells_at}
use Rattle.yaml_text.proofs.utf16.spelled.Goals as goal

pub nonzero_div-upper : goal.nonzero_div-upper
nonzero_div-upper c = Each2-splat _ c.args.low 16 64 (Each1-all _ (λ a. omega arith) c.args.low)

pub nonzero_rem-last : goal.nonzero_rem-last
nonzero_rem-last c = Each2-splat _ c.args.low 16 64 (Each1-all _ (λ a. omega arith) c.args.low)

pub nonzero_div-first : goal.nonzero_div-first
nonzero_div-first c = Each2-splat _ c.args.high 16 16 (Each1-all _ (λ a. omega arith) c.args.high)

pub nonzero_rem-second : goal.nonzero_rem-second
nonzero_rem-second c = Each2-splat _ _ 16 64 (Each1-all _ (λ a. omega arith) _)

pub returns-clause-first : goal.returns-clause-first
returns-clause-first c = let are : AreHalves c.args.low c.args.high = (c.fits-low, c.fits-high) in length-lanes _ 16 (length-halves c.args.low c.args.high are) (are_spelled c.args.low c.args.high are).first

pub returns-clause-second : goal.returns-clause-second
returns-clause-second c = let are : AreHalves c.args.low c.args.high = (c.fits-low, c.fits-high) in length-lanes _ 16 (length-halves c.args.low c.args.high are) (are_spelled c.args.low c.args.high are).second

pub returns-clause-third : goal.returns-clause-third
returns-clause-third c = let are : AreHalves c.args.low c.args.high = (c.fits-low, c.fits-high) in length-lanes _ 16 (length-halves c.args.low c.args.high are) (are_spelled c.args.low c.args.high are).third

pub returns-clause-counts : goal.returns-clause-counts
returns-clause-counts c = let are : AreHalves c.args.low c.args.high = (c.fits-low, c.fits-high) in length-lanes _ 16 (length-halves c.args.low c.args.high are) (are_spelled c.args.low c.args.high are).count

pub returns-clause-units : goal.returns-clause-units
returns-clause-units c = λ k lt. spells_at c.args.low c.args.high k (c.fits-low, c.fits-high) lt

use Rattle.std.proofs.Common.{arith, drop}
use Rattle.yaml_text.specs.inside.Windows.{AreNarrow}
use Rattle.yaml_text.proofs.ManyBytes.NarrowRuns.{narrow_more}
use Rattle.yaml_text.proofs.blocks.narrow_len.Goals as goal

pub returns-then-are_low-clause-narrow : goal.returns-then-are_low-clause-narrow
returns-then-are_low-clause-narrow c =
    let xs = c.args.bytes.now in
    let more : AreNarrow (drop c.narrow.i xs) 64 = rw c.rest.ensures at (c.are_narrow.ensures c.if-are_narrow.true) in
    narrow_more xs c.narrow.i 64 c.narrow.invariant.narrow more

pub narrow-preserved : goal.narrow-preserved
narrow-preserved c =
    let xs = c.args.bytes.now in
    let more : AreNarrow (drop c.narrow.i xs) 64 = rw c.rest.ensures at (c.are_narrow.ensures c.if-are_narrow.true) in
    record { narrow = narrow_more xs c.narrow.i 64 c.narrow.invariant.narrow more; within = omega arith }

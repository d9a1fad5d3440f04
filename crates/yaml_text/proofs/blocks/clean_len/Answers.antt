use Rattle.std.proofs.Common.{arith, drop}
use Rattle.yaml_text.specs.inside.Windows.{AreClean}
use Rattle.yaml_text.proofs.ManyBytes.WholeRuns.{clean_more}
use Rattle.yaml_text.proofs.blocks.clean_len.Goals as goal

pub clean-preserved : goal.clean-preserved
clean-preserved c =
    let xs = c.args.bytes.now in
    let more : AreClean (drop c.clean.i xs) 16 = rw c.rest.ensures at (c.are_clean.ensures c.if-are_clean.true) in
    record { clean = clean_more xs c.clean.i 16 c.clean.invariant.clean more; within = omega arith }

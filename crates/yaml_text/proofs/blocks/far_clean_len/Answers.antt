use Rattle.std.proofs.Common.{arith, drop}
use Rattle.yaml_text.specs.inside.Windows.{AreClean}
use Rattle.yaml_text.proofs.ManyBytes.WholeRuns.{clean_more}
use Rattle.yaml_text.proofs.blocks.far_clean_len.Goals as goal

pub returns-then-are_ascii-clause-clean : goal.returns-then-are_ascii-clause-clean
returns-then-are_ascii-clause-clean c =
    let xs = c.args.bytes.now in
    let more : AreClean (drop c.clean.i xs) 64 = rw c.rest.ensures at (c.are_clean_far.ensures c.if-are_clean_far.true) in
    clean_more xs c.clean.i 64 c.clean.invariant.clean more

pub clean-preserved : goal.clean-preserved
clean-preserved c =
    let xs = c.args.bytes.now in
    let more : AreClean (drop c.clean.i xs) 64 = rw c.rest.ensures at (c.are_clean_far.ensures c.if-are_clean_far.true) in
    record { clean = clean_more xs c.clean.i 64 c.clean.invariant.clean more; within = omega arith }

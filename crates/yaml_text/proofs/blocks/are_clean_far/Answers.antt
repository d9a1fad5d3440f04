use Rattle.std.proofs.Common.{◌&&◌, drop, arith, length-drop, ap, length}
use Rattle.std.proofs.lemmas.Bool.{and_parts}
use Rattle.yaml_text.specs.inside.Windows.{AreClean}
use Rattle.yaml_text.proofs.ManyBytes.WholeRuns.{clean_more}
use Rattle.yaml_text.proofs.blocks.are_clean_far.Goals as goal

pub are_clean-requires-3 : goal.are_clean-requires-3
are_clean-requires-3 c = omega (arith, ap length c.rest-2.ensures, length-drop 32 c.args.bytes.now)

pub are_clean-requires-4 : goal.are_clean-requires-4
are_clean-requires-4 c = omega (arith, ap length c.rest-3.ensures, length-drop 48 c.args.bytes.now)

pub returns : goal.returns
returns c = λ all.
    let xs = c.args.bytes.now in
    let halves = and_parts (c.are_clean.result && c.are_clean-2.result) (c.are_clean-3.result && c.are_clean-4.result) all in
    let front = and_parts c.are_clean.result c.are_clean-2.result halves.0 in
    let after = and_parts c.are_clean-3.result c.are_clean-4.result halves.1 in
    let one : AreClean xs 16 = c.are_clean.ensures front.0 in
    let two : AreClean (drop 16 xs) 16 = rw c.rest.ensures at (c.are_clean-2.ensures front.1) in
    let three : AreClean (drop 32 xs) 16 = rw c.rest-2.ensures at (c.are_clean-3.ensures after.0) in
    let four : AreClean (drop 48 xs) 16 = rw c.rest-3.ensures at (c.are_clean-4.ensures after.1) in
    clean_more xs 48 16 (clean_more xs 32 16 (clean_more xs 16 16 one two) three) four

use Rattle.std.proofs.Common.{ℕ, ◌<◌, List, replicate, refl, ap, ◌∙◌, arith, w8}
use lib.Bits.{bit_and, and_le_r}
use lib.Lanes.{zip2}
use Rattle.std.proofs.lemmas.Simd.{SwzOk-from_below, Each1-zip2, Each2-splat, Each1-all, length-zip2, zip2_splat, swz_l}
use Rattle.yaml_text.specs.inside.Singles.{is_other}
use Rattle.yaml_text.proofs.ManyBytes.VectorLanes.{below, masked_below}
use Rattle.yaml_text.proofs.ManyBytes.AsciiLanes.{exceptions, looked_up, same_as, one_of_two}
use Rattle.yaml_text.proofs.ascii.ascii_others.Goals as goal

abbrev low : List ℕ → List ℕ
low v = zip2 bit_and v (replicate 16 15)

pub swizzle-exceptions : goal.swizzle-exceptions
swizzle-exceptions c =
    let v = c.args.v in
    let small = Each1-all (λ a. bit_and a 15 < 16) (λ a. omega (arith, and_le_r a 15)) v in
    SwzOk-from_below w8 16 1 16 0 (low v) refl (omega (arith, length-zip2 bit_and v (replicate 16 15) c.fits-v.0, c.fits-v.0))
    (Each1-zip2 bit_and (λ j. j < 16) v (replicate 16 15) (Each2-splat (λ a b. bit_and a b < 16) v 16 15 small))

pub returns : goal.returns
returns c =
    let v = c.args.v in
    let long = c.fits-v.0 in
    let found = ap (swz_l w8 16 exceptions 0) (zip2_splat bit_and v 16 15 long) ∙ looked_up exceptions v 0 (omega arith) in
    masked_below 128 _ is_other v _ (omega arith) c.requires (one_of_two _ _ v (zip2_splat below v 16 32 long) (same_as exceptions v _ found)) tt

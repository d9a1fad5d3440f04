use Rattle.std.proofs.Common.{arith}
use Rattle.std.proofs.lemmas.Simd.{zip2_splat}
use Rattle.yaml_text.specs.inside.Singles.{is_other}
use Rattle.yaml_text.proofs.ManyBytes.VectorLanes.{below, at_most, miss, from_splat, both_hit, either, masked}
use Rattle.yaml_text.proofs.ascii.others.Goals as goal

pub returns : goal.returns
returns c =
    let v = c.args.v in
    let long = c.fits-v.0 in
    masked _ is_other v _ (omega arith) c.fits-v.1
    (both_hit _ _ v (either _ _ v (zip2_splat below v 16 32 long) (from_splat at_most 127 16 v long)) (both_hit _ _ v (zip2_splat miss v 16 10 long) (both_hit _ _ v (zip2_splat miss v 16 9 long) (zip2_splat miss v 16 13 long)))) tt

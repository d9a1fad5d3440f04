use Rattle.std.proofs.Common.{arith}
use Rattle.std.proofs.lemmas.Simd.{zip2_splat}
use Rattle.yaml_lexeme.specs.inside.Runs.{begins}
use Rattle.yaml_text.proofs.ManyBytes.VectorLanes.{below, at_most, from_splat, either, masked}
use Rattle.yaml_lexeme.proofs.runs.starts.Goals as goal

pub returns : goal.returns
returns c =
    let v = c.args.v in
    let long = c.fits-v.0 in
    masked _ begins v _ (omega arith) c.fits-v.1 (either _ _ v (zip2_splat below v 16 128 long) (from_splat at_most 192 16 v long)) tt

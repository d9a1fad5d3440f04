use Rattle.std.proofs.Common.{arith}
use Rattle.std.proofs.lemmas.Simd.{zip2_splat}
use Rattle.yaml_lexeme.specs.declared.runs.class_t.TheVariants.{ALPHA}
use Rattle.yaml_lexeme.specs.inside.Runs.{is_stop}
use Rattle.yaml_text.proofs.ManyBytes.VectorLanes.{below, miss, from_splat, both_hit, either, masked}
use Rattle.yaml_lexeme.proofs.runs.no_letters.Goals as goal

pub returns : goal.returns
returns c =
    let v = c.args.v in
    let long = c.fits-v.0 in
    masked _ (is_stop ALPHA) v _ (omega arith) c.fits-v.1
    (both_hit _ _ v (either _ _ v (zip2_splat below v 16 _ long) (from_splat below _ 16 v long)) (both_hit _ _ v (either _ _ v (zip2_splat below v 16 _ long) (from_splat below _ 16 v long)) (both_hit _ _ v (either _ _ v (zip2_splat below v 16 _ long) (from_splat below _ 16 v long)) (both_hit _ _ v (zip2_splat miss v 16 _ long) (zip2_splat miss v 16 _ long))))) tt

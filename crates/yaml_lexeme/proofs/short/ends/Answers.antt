use Rattle.std.proofs.Common.{ℕ, cond, eqb, arith}
use Rattle.std.proofs.lemmas.Simd.{zip2_splat}
use Rattle.yaml_lexeme.specs.inside.ShortRuns.{ends}
use Rattle.yaml_text.proofs.ManyBytes.VectorLanes.{below, from_splat, either, masked}
use Rattle.yaml_lexeme.proofs.short.ends.Goals as goal

abbrev hit : ℕ → ℕ → ℕ
hit a b = cond (eqb a b) 255 0

pub returns : goal.returns
returns c =
    let v = c.args.v in
    let long = c.fits-v.0 in
    masked _ ends v _ (omega arith) c.fits-v.1
    (either _ _ v (zip2_splat hit v 16 _ long) (either _ _ v (zip2_splat hit v 16 _ long) (either _ _ v (zip2_splat below v 16 _ long) (from_splat below _ 16 v long)))) tt

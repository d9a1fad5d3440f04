use Rattle.std.proofs.Common.{arith}
use Rattle.std.proofs.lemmas.Simd.{zip2_splat}
use Rattle.yaml_lexeme.specs.declared.runs.class_t.TheVariants.{SPACE}
use Rattle.yaml_lexeme.specs.inside.Runs.{is_stop}
use Rattle.yaml_text.proofs.ManyBytes.VectorLanes.{miss, masked}
use Rattle.yaml_lexeme.proofs.runs.no_spaces.Goals as goal

pub returns : goal.returns
returns c = masked _ (is_stop SPACE) c.args.v _ (omega arith) c.fits-v.1 (zip2_splat miss c.args.v 16 _ c.fits-v.0) tt

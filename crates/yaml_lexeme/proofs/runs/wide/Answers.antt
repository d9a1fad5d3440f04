use Rattle.std.proofs.Common.{arith}
use Rattle.yaml_lexeme.specs.inside.Runs.{is_wide}
use Rattle.yaml_text.proofs.ManyBytes.VectorLanes.{at_most, from_splat, masked}
use Rattle.yaml_lexeme.proofs.runs.wide.Goals as goal

pub returns : goal.returns
returns c = masked _ is_wide c.args.v _ (omega arith) c.fits-v.1 (from_splat at_most 128 16 c.args.v c.fits-v.0) tt

use Rattle.std.proofs.Common.{arith}
use Rattle.std.proofs.lemmas.Simd.{get_or-put_chunk_at, get_or-put_chunk_below}
use Rattle.yaml_text.proofs.utf16.lay.Goals as goal

pub returns-clause-laid : goal.returns-clause-laid
returns-clause-laid c = λ k lt. get_or-put_chunk_at c.args.at c.args.cells.now c.args.v k 0 (omega (arith, c.fits-v.0)) (omega (arith, c.fits-v.0))

pub returns-clause-before : goal.returns-clause-before
returns-clause-before c = λ k lt. get_or-put_chunk_below c.args.at c.args.cells.now c.args.v k 0 lt

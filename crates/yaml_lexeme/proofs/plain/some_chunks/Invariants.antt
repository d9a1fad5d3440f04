use Rattle.std.proofs.Common.{length}
use Rattle.yaml_lexeme.specs.inside.Words.{Goes}
use Rattle.yaml_lexeme.proofs.plain.some_chunks.Given as goal

abbrev pub invariant-chunk : goal.invariant-chunk
invariant-chunk l = Goes l.in_flow l.least l.fn.cursor l.cursor

abbrev pub decreases-chunk : goal.decreases-chunk
decreases-chunk l = length l.cursor.rest

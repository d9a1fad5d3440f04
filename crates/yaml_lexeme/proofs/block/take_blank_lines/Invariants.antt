use Rattle.std.proofs.Common.{length}
use Rattle.yaml_lexeme.proofs.Readers.BlockLines.{Blanking}
use Rattle.yaml_lexeme.specs.inside.Tails.{breaks_in}
use Rattle.yaml_lexeme.proofs.block.take_blank_lines.Given as goal

abbrev pub invariant-lines : goal.invariant-lines
invariant-lines l = Blanking l.limit l.fn.cursor (breaks_in l.fn.breaks) l.cursor (breaks_in l.breaks) l.column l.end

abbrev pub decreases-lines : goal.decreases-lines
decreases-lines l = length l.cursor.rest

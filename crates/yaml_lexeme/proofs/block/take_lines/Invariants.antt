use Rattle.std.proofs.Common.{length}
use Rattle.yaml_lexeme.proofs.Readers.BlockLines.{Blocking}
use Rattle.yaml_lexeme.proofs.block.take_lines.Given as goal

abbrev pub invariant-lines : goal.invariant-lines
invariant-lines l = Blocking l.folded l.fn.level l.fn.cursor l.header.chomp l.indent l.cursor l.out.items l.tail

abbrev pub decreases-lines : goal.decreases-lines
decreases-lines l = length l.cursor.rest

use Rattle.std.proofs.Common.{length}
use Rattle.yaml_lexeme.proofs.Readers.PlainLinks.{Passes}
use Rattle.yaml_lexeme.proofs.plain.skip_separator.Given as goal

abbrev pub invariant-run : goal.invariant-run
invariant-run l = Passes l.least l.broken l.cursor l.fn.cursor

abbrev pub decreases-run : goal.decreases-run
decreases-run l = length l.cursor.rest

use Rattle.std.proofs.Common.{length}
use Rattle.yaml_lexeme.proofs.Readers.GapLines.{Comes}
use Rattle.yaml_lexeme.specs.Gap.{after_gap_line}
use Rattle.yaml_lexeme.proofs.gap.take_gap_lines.Given as goal

abbrev pub invariant-lines : goal.invariant-lines
invariant-lines l = Comes l.in_flow (after_gap_line l.in_flow l.cursor) (after_gap_line l.in_flow l.initial.cursor)

abbrev pub decreases-lines : goal.decreases-lines
decreases-lines l = length l.cursor.rest

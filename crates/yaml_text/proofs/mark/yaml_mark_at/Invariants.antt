use Rattle.std.proofs.Common.{length}
use Rattle.yaml_text.proofs.Marks.MarkIndexes.{IsOnWay}
use Rattle.yaml_text.proofs.mark.yaml_mark_at.Given as goal

abbrev pub invariant-loop-cursor : goal.invariant-loop-cursor
invariant-loop-cursor l = IsOnWay l.text.chars l.index l.cursor

abbrev pub decreases-loop-cursor : goal.decreases-loop-cursor
decreases-loop-cursor l = length l.cursor.left

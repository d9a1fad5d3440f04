use Rattle.std.proofs.Common.{◌≡◌, ◌≤◌, take, length}
use Rattle.yaml_lexeme.specs.inside.Runs.{trim}
use Rattle.yaml_lexeme.proofs.runs.trimmed.Given as goal

abbrev pub invariant-blanks : goal.invariant-blanks
invariant-blanks l = (trim (take l.n l.piece) ≡ trim l.piece) × (l.n ≤ length l.piece)

abbrev pub decreases-blanks : goal.decreases-blanks
decreases-blanks l = l.n

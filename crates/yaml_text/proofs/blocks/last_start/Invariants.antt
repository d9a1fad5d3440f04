use Rattle.std.proofs.Common.{◌≤◌}
use Rattle.yaml_text.proofs.blocks.last_start.Given as goal

abbrev pub invariant-back : goal.invariant-back
invariant-back l = l.k ≤ l.from

abbrev pub decreases-back : goal.decreases-back
decreases-back l = l.k

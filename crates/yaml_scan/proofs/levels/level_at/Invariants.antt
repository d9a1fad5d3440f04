use Rattle.std.proofs.Common.{◌≡◌, reverse, filter, length}
use Rattle.yaml_scan.specs.Levels.{stays}
use Rattle.yaml_scan.specs.Falling.{IsFalling}
use Rattle.yaml_scan.proofs.levels.level_at.Given as goal

abbrev pub invariant-closed : goal.invariant-closed
invariant-closed l = record {
  falls : IsFalling (reverse l.left);
  same : filter (stays l.in_flow l.kind l.start) (reverse l.left) ≡ filter (stays l.in_flow l.kind l.start) (reverse l.fn.levels);
}

abbrev pub decreases-closed : goal.decreases-closed
decreases-closed l = length l.left

use Rattle.std.proofs.Common.{◌≡◌, ◌+◌, ◌≤◌, reverse, filter, length, not, vec_len}
use Rattle.std.specs.Vec.{vec_capacity}
use Rattle.yaml_scan.specs.Levels.{stays}
use Rattle.yaml_scan.specs.Falling.{IsFalling}
use Rattle.yaml_scan.proofs.RunningStep.LevelStack.{ends_early}
use Rattle.yaml_scan.proofs.levels.close_levels.Given as goal

abbrev pub invariant-loop-last : goal.invariant-loop-last
invariant-loop-last l = record {
  falls : IsFalling (reverse l.levels.items);
  same : filter (stays l.met.in_flow l.met.kind l.met.new.start) (reverse l.levels.items) ≡ filter (stays l.met.in_flow l.met.kind l.met.new.start) (reverse l.fn.levels.items);
  early : l.early + length (filter (ends_early l.met.kind l.gap_end l.met.new.start) (filter (λ c. not (stays l.met.in_flow l.met.kind l.met.new.start c)) (reverse l.levels.items))) ≡ length (filter (ends_early l.met.kind l.gap_end l.met.new.start) (filter (λ c. not (stays l.met.in_flow l.met.kind l.met.new.start c)) (reverse l.fn.levels.items)));
  late : l.ends + length (filter (λ c. not (ends_early l.met.kind l.gap_end l.met.new.start c)) (filter (λ c. not (stays l.met.in_flow l.met.kind l.met.new.start c)) (reverse l.levels.items))) ≡ length (filter (λ c. not (ends_early l.met.kind l.gap_end l.met.new.start c)) (filter (λ c. not (stays l.met.in_flow l.met.kind l.met.new.start c)) (reverse l.fn.levels.items)));
  few : l.early + l.ends + vec_len l.levels ≤ vec_len l.fn.levels;
  room : vec_capacity l.levels ≡ vec_capacity l.fn.levels;
}

abbrev pub decreases-loop-last : goal.decreases-loop-last
decreases-loop-last l = vec_len l.levels

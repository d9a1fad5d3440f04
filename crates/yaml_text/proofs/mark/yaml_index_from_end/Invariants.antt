use Rattle.std.proofs.Common.{◌≡◌, ℕ, ◌+◌, ◌≤◌, ◌<◌, length, drop}
use Rattle.yaml_text.proofs.Marks.CharactersLeft.{starts}
use Rattle.yaml_text.proofs.mark.yaml_index_from_end.Given as goal

abbrev pub invariant-back : goal.invariant-back
invariant-back l = record {
  within : l.at ≤ length l.bytes;
  count : starts (drop l.at l.bytes) + l.left ≡ l.count;
  fewer : (j : ℕ) → l.at < j → j ≤ length l.bytes → starts (drop j l.bytes) < l.count;
}

abbrev pub decreases-back : goal.decreases-back
decreases-back l = l.at

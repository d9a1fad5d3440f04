use Rattle.std.proofs.Common.{ℕ, ◌-◌, ◌<◌, ◌≤◌, ◌++◌, List, length, take}
use Rattle.yaml_text.specs.inside.Units.{Reads16}
use Rattle.yaml_text.proofs.utf16.put_plains.Given as goal

abbrev pub invariant-units : goal.invariant-units
invariant-units l = record {
  read : (text : List ℕ) → Reads16 l.big l.bytes text l.start → Reads16 l.big l.bytes (text ++ take l.n l.buffer) l.at;
  forward : l.start ≤ l.at;
  more : 0 < l.n → l.start < l.at;
  within : l.at ≤ length l.bytes;
  few : l.n ≤ 64;
}

abbrev pub decreases-units : goal.decreases-units
decreases-units l = length l.bytes - l.at

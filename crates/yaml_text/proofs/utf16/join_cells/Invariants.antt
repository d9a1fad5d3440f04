use Rattle.std.proofs.Common.{◌≡◌, ◌+◌, ◌*◌, ◌≤◌, ◌++◌, take, drop}
use Rattle.yaml_text.specs.inside.Cells.{packed}
use Rattle.yaml_text.proofs.utf16.join_cells.Given as goal

abbrev pub invariant-loop-k : goal.invariant-loop-k
invariant-loop-k l = record {
  bytes : take l.end l.items ≡ take l.start l.fn.items ++ packed l.k (drop l.start l.fn.items);
  after : drop (l.start + 4 * l.k) l.items ≡ drop (l.start + 4 * l.k) l.fn.items;
  before : l.end ≤ l.start + 4 * l.k;
}

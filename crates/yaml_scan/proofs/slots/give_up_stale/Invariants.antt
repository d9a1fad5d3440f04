use Rattle.std.proofs.Common.{◌≡◌, ℕ, ◌-◌, map, length, vec_len, Some}
use Rattle.std.specs.Prelude.{slice_get}
use Rattle.std.specs.Vec.{vec_capacity}
use Rattle.yaml_scan.specs.inside.Slots.{Held, still_held, AreEmptyBelow}
use Rattle.yaml_scan.proofs.slots.give_up_stale.Given as goal

abbrev pub invariant-loop-empty : goal.invariant-loop-empty
invariant-loop-empty l = record {
  long : vec_len l.slots ≡ vec_len l.fn.slots;
  room : vec_capacity l.slots ≡ vec_capacity l.fn.slots;
  swept : map (still_held l.limit l.mark) l.slots.items ≡ map (still_held l.limit l.mark) l.fn.slots.items;
  below : AreEmptyBelow l.empty l.slots.items;
  held : (k : ℕ) (h : Held) → slice_get l.slots.items k ≡ Some (Some h) → slice_get l.fn.slots.items k ≡ Some (Some h);
}

abbrev pub decreases-loop-empty : goal.decreases-loop-empty
decreases-loop-empty l = length l.slots.items - l.empty

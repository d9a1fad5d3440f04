use Rattle.std.proofs.Common.{◌≡◌, ◌≤◌, length, nat_eq, take}
use Rattle.yaml_scan.specs.Fed.{Fed}
use Rattle.yaml_scan.specs.inside.Feeding.{IsFed}
use Rattle.testbench.proofs.batches.give_in_pieces.Given as goal

abbrev pub invariant-calls : goal.invariant-calls
invariant-calls g l = (l.feed.came ≤ length l.feed.input.now)
    × ((p : Fed) × (p.given ≡ take l.feed.came l.feed.input.now) × (p.whole ≡ nat_eq l.feed.came (length l.feed.input.now)) × IsFed p l.feed.fed)

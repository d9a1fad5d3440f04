use Rattle.std.proofs.Common.{◌≡◌, ◌≤◌, ◌-◌, false, length, take}
use Rattle.std.specs.Io.KnownBytes.{Appends}
use Rattle.yaml_listing.proofs.run.write_all.Given as goal

abbrev pub invariant-loop-at : goal.invariant-loop-at
invariant-loop-at g l =
    let sink = g.W.yaml_sink_t in
    record {
      within : l.at ≤ length l.bytes;
      working : sink.failed l.writer ≡ false;
      written : Appends (sink.contents l.fn.writer) (sink.contents l.writer) (take l.at l.bytes);
    }

abbrev pub decreases-loop-at : goal.decreases-loop-at
decreases-loop-at g l = length l.bytes - l.at

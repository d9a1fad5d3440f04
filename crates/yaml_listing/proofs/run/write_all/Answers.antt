-- What the calls wrote, one after another, is the front of the bytes.
use Rattle.std.proofs.Common.{subst, List, ℕ, arith, length-take, length-drop}
use Rattle.std.specs.Io.KnownBytes.{Appends}
use Rattle.yaml_listing.proofs.WritesInTurn.{Appends-trans, take-then}
use Rattle.yaml_listing.proofs.run.write_all.Goals as goal

pub loop-at-preserved : goal.loop-at-preserved
loop-at-preserved g c =
    let sink = g.W.yaml_sink_t in
    let both = Appends-trans _ _ _ _ _ c.loop-at.invariant.written c.in-Ok.ensures.bytes in
    record {
      within = omega (arith, simp (length-take, length-drop) at c.in-Ok.ensures.bound);
      working = c.in-Ok.ensures.failed;
      written = subst (λ (bs : List ℕ). Appends (sink.contents c.args.writer.now) (sink.contents c.put.new.self) bs)
          (take-then c.args.bytes.now c.loop-at.at c.in-Ok.count) both;
    }

use Rattle.std.proofs.Common.{◌≡◌, false, vec_len, ◌-◌, ◌^◌, List, ℕ}
use Rattle.std.specs.Io.KnownBytes.{Appends, Consumes}
use Rattle.yaml_listing.specs.inside.Following.{IsAt}
use Rattle.yaml_listing.proofs.following.follow.Given as goal

abbrev pub invariant-loop-follower : goal.invariant-loop-follower
invariant-loop-follower g l =
    let source = g.R.yaml_source_t in
    let sink = g.W.yaml_sink_t in
    record {
      reader : source.failed l.reader ≡ false;
      writer : sink.failed l.writer ≡ false;
      read : Consumes (source.remaining l.fn.reader) (source.remaining l.reader) l.follower.input.items;
      told : (lines : List ℕ) × Appends (sink.contents l.fn.writer) (sink.contents l.writer) lines
          × IsAt l.fn.setting l.follower.input.items l.follower.fed lines;
    }

-- what is read fits into memory
abbrev pub decreases-loop-follower : goal.decreases-loop-follower
decreases-loop-follower g l = 2 ^ 64 - vec_len l.follower.input

use Rattle.std.proofs.Common.{◌≡◌, false, vec_len, ◌-◌, ◌^◌}
use Rattle.std.specs.Io.KnownBytes.{Consumes}
use Rattle.yaml_listing.proofs.run.read_all.Given as goal

abbrev pub invariant-loop-input : goal.invariant-loop-input
invariant-loop-input g l =
    let source = g.R.yaml_source_t in
    record {
      working : source.failed l.reader ≡ false;
      read : Consumes (source.remaining l.fn.reader) (source.remaining l.reader) l.input.items;
    }

-- what is read fits into memory
abbrev pub decreases-loop-input : goal.decreases-loop-input
decreases-loop-input g l = 2 ^ 64 - vec_len l.input

use Rattle.std.proofs.Common.{◌≡◌, ◌*◌, flat_map, take}
use Rattle.yaml_listing.specs.Listing.{byte_text}
use Rattle.yaml_listing.proofs.put.set_bytes.Given as goal

-- the digits so far are those of the bytes so far
abbrev pub invariant-loop-i : goal.invariant-loop-i
invariant-loop-i l = take (2 * l.i) l.place ≡ flat_map byte_text (take l.i l.bytes)

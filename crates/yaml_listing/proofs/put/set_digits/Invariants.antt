use Rattle.std.proofs.Common.{◌≡◌, ◌++◌, ◌+◌, ◌≤◌, ◌^◌, ◌<◌, length, drop}
use Rattle.std.specs.Fmt.{decimal}
use Rattle.yaml_listing.proofs.put.set_digits.Given as goal

-- the digits so far follow those of the number that is left, for which there is room
abbrev pub invariant-digits : goal.invariant-digits
invariant-digits l = record {
  within : l.at ≤ l.end;
  room : l.end + length (decimal l.left) ≤ l.at + 20;
  fits : l.left < 2 ^ 64;
  written : decimal l.left ++ drop l.at l.buffer ≡ decimal l.number ++ drop l.end l.fn.buffer;
}

abbrev pub decreases-digits : goal.decreases-digits
decreases-digits l = l.left

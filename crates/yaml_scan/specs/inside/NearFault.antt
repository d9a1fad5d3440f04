-- The reader's fault instead of a scanner's, by the index from which on a step is near.
use Rattle.std.specs.Prelude.{ℕ, nat_le, Option, None, Some, if◌then◌else◌}
use Rattle.yaml_text.specs.Fault.{Fault}

-- the reader's fault, if steps are near from index near on
abbrev pub near_fault : ℕ → ℕ → Option Fault → Option Fault
near_fault near index None = None
near_fault near index (Some f) = if nat_le near index then Some f else None

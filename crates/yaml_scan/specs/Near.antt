-- The reader's fault near the end: in a refused input it comes instead of the first step that is near the end of the
-- front.
use Rattle.yaml_text.specs.Fault.{Fault}
use Rattle.std.specs.Prelude.{ℕ, ◌+◌, Bool, false, nat_lt, Option, Some, None, if◌then◌else◌}
use Rattle.yaml_scan.specs.Step.{Outcome}
use Rattle.yaml_scan.specs.Step.Outcome.{Reads, Faults}

-- fewer than eight characters follow a place
abbrev pub is_near : ℕ → ℕ → Bool
is_near size p = nat_lt size (p + 8)

-- the place of a step: of its reach, or of its problem
abbrev pub place_of : Outcome → ℕ
place_of (Reads x) = x.place
place_of (Faults o) = o.place

-- near the end of a refused text the reader's fault comes instead of a step
abbrev pub unless_near : ℕ → Option Fault → Outcome → Outcome
unless_near size None o = o
unless_near size (Some f) o = if is_near size (place_of o) then Faults (record { fault = f; place = size }) else o

-- STREAM-START is a step at place 0
abbrev pub starts_near : ℕ → Option Fault → Bool
starts_near size None = false
starts_near size (Some f) = is_near size 0

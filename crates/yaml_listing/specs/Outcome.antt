-- How the program ends.
use Rattle.std.specs.Prelude.{ℕ, Bool, true, false, Result, Ok, Err}
use Rattle.yaml_listing.specs.declared.outcome.tool_fault_t.{tool_fault_t}
use Rattle.yaml_listing.specs.declared.outcome.tool_fault_t.TheVariants.{Args, Read, Write, Memory}

-- the exit status: 0 if no fault line was written, 1 if one was, 2 for wrong arguments, 3 if
-- a device failed or memory was refused
abbrev pub status_of : Result Bool tool_fault_t → ℕ
status_of (Ok false) = 0
status_of (Ok true) = 1
status_of (Err Args) = 2
status_of (Err Read) = 3
status_of (Err Write) = 3
status_of (Err Memory) = 3

-- whether a call ended because a read failed
abbrev pub is_read_fault : {T : Type 0} → Result T tool_fault_t → Bool
is_read_fault (Ok x) = false
is_read_fault (Err Args) = false
is_read_fault (Err Read) = true
is_read_fault (Err Write) = false
is_read_fault (Err Memory) = false

-- whether a call ended because a write failed
abbrev pub is_write_fault : {T : Type 0} → Result T tool_fault_t → Bool
is_write_fault (Ok x) = false
is_write_fault (Err Args) = false
is_write_fault (Err Read) = false
is_write_fault (Err Write) = true
is_write_fault (Err Memory) = false

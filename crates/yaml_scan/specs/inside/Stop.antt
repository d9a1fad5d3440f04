-- The fault of a step that stopped.
use Rattle.std.specs.Prelude.{Option, None, Some}
use Rattle.yaml_text.specs.declared.fault.yaml_fault_t.{yaml_fault_t}
use Rattle.yaml_text.specs.declared.types.yaml_error_type_t.TheVariants.{YAML_NO_ERROR}
use Rattle.yaml_text.specs.Fault.{Fault, fault_of, memory_fault}
use Rattle.yaml_scan.specs.declared.stop.stop_t.{stop_t}
use Rattle.yaml_scan.specs.declared.stop.stop_t.TheVariants.{MEMORY, FAULT, SINK}

-- no fault of a step
abbrev pub no_fault : Fault
no_fault = record memory_fault { error = YAML_NO_ERROR }

-- the fault of kind memory if memory was refused, and else the one that was stored, if the sink did not refuse a token
abbrev pub fault_at : stop_t → Option yaml_fault_t → Fault
fault_at MEMORY stored = memory_fault
fault_at FAULT (Some f) = fault_of f
fault_at FAULT None = no_fault
fault_at SINK stored = no_fault

-- The faults of a step, in values.
use Rattle.std.specs.Prelude.{◌≡◌, ℕ, List, Option, None, Some}
use Rattle.yaml_text.specs.declared.types.yaml_mark_t.{yaml_mark_t}
use Rattle.yaml_text.specs.Fault.{Fault, scanner_fault}
use Rattle.yaml_scan.specs.Step.{no_colon, in_simple_key}
use Rattle.yaml_scan.specs.inside.Slots.{Held}

-- the fault of a lost candidate
abbrev pub IsLost : Option Held → yaml_mark_t → Fault → Type 0
IsLost None m f = ⊥
IsLost (Some h) m f = f ≡ scanner_fault no_colon m (Some in_simple_key) h.start

-- whether there is a fault of this problem
abbrev pub IsRefused : Option (List ℕ) → yaml_mark_t → Option Fault → Type 0
IsRefused None m o = o ≡ None
IsRefused (Some p) m o = o ≡ Some (scanner_fault p m None m)

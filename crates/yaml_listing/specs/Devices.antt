-- The devices of the program.
use Rattle.std.specs.Prelude.{ℕ, ◌<◌, Bool, Result, IfOk}
use Rattle.yaml_listing.specs.declared.devices.yaml_source_of_t.{yaml_source_of_t}
use Rattle.yaml_listing.specs.declared.devices.yaml_sink_of_t.{yaml_sink_of_t}

-- what was taken is at least one byte
abbrev pub IsProgress : {E : Type 0} → Result ℕ E → Type 0
IsProgress r = IfOk r (λ n. 0 < n)

-- whether a read has failed
abbrev pub source_failed : {R : Type 0} → yaml_source_of_t R → Bool
source_failed s = s.failed

-- whether a write has failed, or took no byte
abbrev pub sink_failed : {W : Type 0} → yaml_sink_of_t W → Bool
sink_failed s = s.failed

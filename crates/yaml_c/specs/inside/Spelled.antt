-- The input in which values may stand, as the code has it.
use Rattle.yaml_c.specs.Spelled.{Spelled}
use Rattle.yaml_c.specs.declared.spelled.spelled_t.{spelled_t}

-- the same, as the definitions see it
abbrev pub spelled_of : spelled_t → Spelled
spelled_of s = record { input = s.input.now; skipped = s.skipped }

-- What can be wrong with the bytes of a character.
use Rattle.std.specs.Prelude.{ℕ, ℤ, List, codes}
use Rattle.yaml_text.specs.declared.offence.problem_t.{problem_t}
use Rattle.yaml_text.specs.declared.offence.problem_t.TheVariants.{LEAD, SHORT, TRAIL, LENGTH, VALUE, CONTROL}
use Rattle.yaml_text.specs.declared.offence.problem_t.TheVariants.{HALF_UNIT, LOW_UNIT, HALF_PAIR, NO_LOW_UNIT}
use Rattle.yaml_text.specs.declared.offence.offence_t.{offence_t}

-- A problem, `offset` bytes on, with a value to show.
abbrev pub offence_at : problem_t → ℕ → ℤ → offence_t
offence_at problem offset value = record { problem = problem; offset = offset; value = value }

-- The words of a problem in a fault.
unfoldable pub problem_text : problem_t → List ℕ
problem_text LEAD = codes "invalid leading UTF-8 octet"
problem_text SHORT = codes "incomplete UTF-8 octet sequence"
problem_text TRAIL = codes "invalid trailing UTF-8 octet"
problem_text LENGTH = codes "invalid length of a UTF-8 sequence"
problem_text VALUE = codes "invalid Unicode character"
problem_text CONTROL = codes "control characters are not allowed"
problem_text HALF_UNIT = codes "incomplete UTF-16 character"
problem_text LOW_UNIT = codes "unexpected low surrogate area"
problem_text HALF_PAIR = codes "incomplete UTF-16 surrogate pair"
problem_text NO_LOW_UNIT = codes "expected low surrogate area"

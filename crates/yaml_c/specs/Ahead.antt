-- What was read ahead of the tokens that were given. A token that was read ahead stays in the parser, and so does the
-- fault.
use Rattle.std.specs.Prelude.{◌≡◌, Option, None, Some}
use Rattle.yaml_text.specs.Fault.{Fault}
use Rattle.yaml_c.specs.declared.held.ahead_t.{ahead_t}
use Rattle.yaml_c.specs.declared.held.ahead_t.TheVariants as code

-- nothing, or the fault that comes next; or nothing comes, since the stream end or the fault was given
pub data Ahead : Type 0 where
  NONE : Ahead
  READ_FAULT : Fault → Ahead
  ALL_GIVEN : Ahead

-- That of the code, if this is the fault that ended the parser's session.
abbrev pub IsAhead : ahead_t → Option Fault → Ahead → Type 0
IsAhead code.NONE fault a = a ≡ NONE
IsAhead code.FAULT fault a = (f : Fault) × (fault ≡ Some f) × (a ≡ READ_FAULT f)
IsAhead code.OVER fault a = a ≡ ALL_GIVEN

-- the fault that comes next, if it does
abbrev pub read_fault : Ahead → Option Fault
read_fault NONE = None
read_fault (READ_FAULT f) = Some f
read_fault ALL_GIVEN = None

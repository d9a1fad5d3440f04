-- What a handle owns.
use mathlib.Core.Bool.{Bool, true, false}
use base.Fml.{Fml, ftrue}
use denote.RattleType.{RattleType}
use denote.RawPtr.{Ptr}
use Rattle.std.specs.declared.alloc.Global.{Global}
use Rattle.std.specs.contracts.impls.GlobalAllocator.TheImpl.{ghosts}
use Rattle.std.specs.Box.Ownership.{box_owns}
use Rattle.yaml_c.specs.contracts.kinds.held_any_t.{the_row}

-- what is held, as a type of the logic
abbrev pub row : RattleType
row = the_row

-- its values
abbrev pub held : Type 0
held = row.Denot

-- the allocator, which has no state
abbrev pub heap : Global
heap = record { memory = record { seal = tt } }

-- a live handle owns a box with the value, and one that is closed owns nothing
abbrev pub handle_owns : Bool → Ptr → held → Fml
handle_owns true p x = box_owns (ghosts.dealloc_token heap) row p x
handle_owns false p x = ftrue

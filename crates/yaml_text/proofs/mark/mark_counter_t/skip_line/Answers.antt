use Rattle.std.proofs.Common.{arith}
use Rattle.yaml_text.proofs.Marks.MarkMoves.{line_lands, at_bounds}
use Rattle.yaml_text.proofs.mark.mark_counter_t.skip_line.Goals as goal

pub overflow_add-self-2 : goal.overflow_add-self-2
overflow_add-self-2 c = omega (arith, at_bounds _ _ c.self.invariant)

pub invariant_of-self : goal.invariant_of-self
invariant_of-self c = (line_lands _ _ _ _ c.self.invariant c.self.view_is c.requires c.break_width-width.ensures).is_at

pub returns : goal.returns
returns c = (line_lands _ _ _ _ c.self.invariant c.self.view_is c.requires c.break_width-width.ensures).place

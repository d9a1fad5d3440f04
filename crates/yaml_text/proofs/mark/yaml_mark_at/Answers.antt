use Rattle.std.proofs.Common.{arith, ap, ◌∙◌}
use Rattle.yaml_text.specs.declared.types.yaml_mark_t.{yaml_mark_t}
use Rattle.yaml_text.proofs.Marks.MarkIndexes.{on_way_next, on_way_left, on_way_end}
use Rattle.yaml_text.proofs.mark.yaml_mark_at.Goals as goal

pub loop-cursor-preserved : goal.loop-cursor-preserved
loop-cursor-preserved c = rw c.advance.ensures.place (on_way_next _ _ _ c.requires.0 c.loop-cursor.invariant c.requires.1 (omega (arith, ap (λ (m : yaml_mark_t). m.index) c.mark.ensures.mark)))

pub returns : goal.returns
returns c = λ p place. c.mark-2.ensures.mark ∙ on_way_end _ _ _ p c.loop-cursor.invariant place (omega (arith, ap (λ (m : yaml_mark_t). m.index) c.mark.ensures.mark))

pub advance-requires : goal.advance-requires
advance-requires c = on_way_left _ _ _ c.requires.0 c.loop-cursor.invariant c.requires.1 (omega (arith, ap (λ (m : yaml_mark_t). m.index) c.mark.ensures.mark))

use Rattle.yaml_text.proofs.Marks.MarkMoves.{front_is_of}
use Rattle.yaml_text.proofs.mark.mark_counter_t.new.Goals as goal

pub invariant_of-result : goal.invariant_of-result
invariant_of-result c = (front_is_of _ _ c.bytes.ensures.utf8 c.bytes.ensures.characters).is_at

pub returns : goal.returns
returns c = (front_is_of _ _ c.bytes.ensures.utf8 c.bytes.ensures.characters).place

-- The mark at the text's end is that after all its characters.
use Rattle.yaml_c.proofs.EndMark.{mark_at-end}
use Rattle.yaml_c.proofs.place.end_mark.Goals as goal

pub returns : goal.returns
returns c = mark_at-end _ _ _ c.bytes.ensures.utf8 c.yaml_mark_at.ensures

use Rattle.yaml_text.proofs.Marks.MarkSplits.{place_test}
use Rattle.yaml_text.proofs.mark.yaml_is_place.Goals as goal

pub returns : goal.returns
returns c = place_test _ _ _ _ c.bytes.ensures.utf8 c.bytes.ensures.characters c.is_place_by.ensures

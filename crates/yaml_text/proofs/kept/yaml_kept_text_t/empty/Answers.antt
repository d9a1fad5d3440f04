use Rattle.yaml_text.proofs.Decodings.KeptTexts.{kept_nothing}
use Rattle.yaml_text.proofs.kept.yaml_kept_text_t.empty.Goals as goal

pub returns : goal.returns
returns c input = kept_nothing input _ c.kept_part.ensures

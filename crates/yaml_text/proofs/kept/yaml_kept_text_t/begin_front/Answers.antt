use Rattle.yaml_text.proofs.Decodings.FrontGoesOn.{begun_empty}
use Rattle.yaml_text.proofs.kept.yaml_kept_text_t.begin_front.Goals as goal

pub returns : goal.returns
returns c utf8 = let f = c.find_encoding.ensures in begun_empty _ _ _ _ c.kept_part.ensures f.bom_len f.within utf8

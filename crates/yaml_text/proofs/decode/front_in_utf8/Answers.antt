use Rattle.yaml_text.proofs.Decodings.DecodeFronts.{IsText-nil}
use Rattle.yaml_text.proofs.Decodings.KeptTexts.{keeps8}
use Rattle.yaml_text.proofs.decode.front_in_utf8.Goals as goal

pub front8-len-requires-clause-known : goal.front8-len-requires-clause-known
front8-len-requires-clause-known c = IsText-nil

pub returns : goal.returns
returns c =
    let f = rw c.rest.ensures at c.front8-len.ensures in
    keeps8 _ _ _ _ _ _ c.kept_part.ensures c.requires f.within f.text f.longest f.whole f.offence f.left c.refusal.ensures

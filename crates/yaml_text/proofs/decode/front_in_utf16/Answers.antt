use Rattle.yaml_text.proofs.Decodings.KeptTexts.{keeps16}
use Rattle.yaml_text.proofs.decode.front_in_utf16.Goals as goal

pub returns-clause-front : goal.returns-clause-front
returns-clause-front g c input within is =
    let f = rw is at c.in-Ok.ensures in
    keeps16 _ _ _ _ _ _ _ _ _ c.order.ensures c.kept_bytes-kept.ensures f.text f.longest f.whole f.offence f.left c.refusal.ensures

use Rattle.yaml_text.proofs.Decodings.DecodeResults.{front_longest}
use Rattle.yaml_text.proofs.decode.yaml_decode_front.Goals as goal

pub returns-in-Ok-clause-longest : goal.returns-in-Ok-clause-longest
returns-in-Ok-clause-longest c = front_longest _ _ _ (c.into_text.ensures _ c.in-Ok.ensures.front)

use Rattle.yaml_text.proofs.Decodings.StandIns.{stands_in}
use Rattle.yaml_text.proofs.laws.stand_in_is_refused.Goals as goal

pub returns : goal.returns
returns c = stands_in

use Rattle.yaml_text.proofs.Decodings.BrokenBytes.{stays_broken}
use Rattle.yaml_text.proofs.laws.broken_input_stays_broken.Goals as goal

pub returns : goal.returns
returns c = stays_broken

use Rattle.yaml_lexeme.proofs.Locality.GapLocality as law
use Rattle.yaml_lexeme.proofs.laws.gap_is_local.Goals as goal

pub returns : goal.returns
returns c = law.gap_is_local

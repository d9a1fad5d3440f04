use Rattle.yaml_lexeme.proofs.Locality.KindLocality as law
use Rattle.yaml_lexeme.proofs.laws.kind_is_local.Goals as goal

pub returns : goal.returns
returns c = law.kind_is_local

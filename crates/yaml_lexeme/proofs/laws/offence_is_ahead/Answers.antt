use Rattle.yaml_lexeme.proofs.Locality.LexemeLocality as law
use Rattle.yaml_lexeme.proofs.laws.offence_is_ahead.Goals as goal

pub returns : goal.returns
returns c = law.offence_is_ahead

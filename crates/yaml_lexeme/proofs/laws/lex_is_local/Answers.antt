use Rattle.yaml_lexeme.proofs.Locality.LexemeLocality as law
use Rattle.yaml_lexeme.proofs.laws.lex_is_local.Goals as goal

pub returns : goal.returns
returns c = law.lex_is_local

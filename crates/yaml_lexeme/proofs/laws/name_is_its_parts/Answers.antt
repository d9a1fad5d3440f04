use Rattle.yaml_lexeme.proofs.Grammars.NameGrammar as law
use Rattle.yaml_lexeme.proofs.laws.name_is_its_parts.Goals as goal

pub returns : goal.returns
returns c = record { parts = law.name_parts; refused = law.name_refused }

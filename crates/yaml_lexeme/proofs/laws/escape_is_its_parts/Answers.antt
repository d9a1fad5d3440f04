use Rattle.yaml_lexeme.proofs.Grammars.EscapeGrammar as law
use Rattle.yaml_lexeme.proofs.laws.escape_is_its_parts.Goals as goal

pub returns : goal.returns
returns c = record { parts = law.escape_parts; refused = law.escape_refused }

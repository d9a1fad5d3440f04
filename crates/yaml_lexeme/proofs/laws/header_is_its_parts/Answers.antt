use Rattle.yaml_lexeme.proofs.Grammars.HeaderGrammar as law
use Rattle.yaml_lexeme.proofs.Grammars.LineGrammar as line
use Rattle.yaml_lexeme.proofs.laws.header_is_its_parts.Goals as goal

pub returns : goal.returns
returns c = record { parts = law.header_parts; refused = law.header_refused; line = line.line_parts; line_refused = line.line_refused }

use Rattle.yaml_lexeme.proofs.Grammars.TagGrammar as law
use Rattle.yaml_lexeme.proofs.laws.tag_is_its_parts.Goals as goal

pub returns : goal.returns
returns c = record { parts = law.tag_parts_are; refused = law.tag_refused }

use Rattle.yaml_lexeme.proofs.Grammars.DirectiveGrammar as law
use Rattle.yaml_lexeme.proofs.laws.directive_is_its_parts.Goals as goal

pub returns : goal.returns
returns c = record { parts = law.directive_parts; refused = law.directive_refused }

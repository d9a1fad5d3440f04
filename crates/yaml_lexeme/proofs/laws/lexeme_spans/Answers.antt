use Rattle.yaml_lexeme.proofs.MarkOrder.LexemeOrder as law
use Rattle.yaml_lexeme.proofs.laws.lexeme_spans.Goals as goal

pub returns : goal.returns
returns c = law.lexeme_spans

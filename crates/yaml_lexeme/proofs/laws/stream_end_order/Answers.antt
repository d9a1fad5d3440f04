use Rattle.yaml_lexeme.proofs.MarkOrder.StreamEndOrder as law
use Rattle.yaml_lexeme.proofs.laws.stream_end_order.Goals as goal

pub returns : goal.returns
returns c = law.stream_end_order

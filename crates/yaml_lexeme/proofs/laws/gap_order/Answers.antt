use Rattle.yaml_lexeme.proofs.MarkOrder.PlaceOrder as law
use Rattle.yaml_lexeme.proofs.laws.gap_order.Goals as goal

pub returns : goal.returns
returns c = law.gap_order

use Rattle.yaml_c.proofs.PieceTurns.{pieces_come}
use Rattle.yaml_c.proofs.laws.pieces_come.Goals as goal

pub returns : goal.returns
returns c = pieces_come

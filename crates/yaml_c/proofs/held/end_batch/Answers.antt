use Rattle.std.proofs.Common.{rules}
use Rattle.yaml_c.proofs.held.end_batch.Goals as goal

pub returns-then-has_text_room-clause-ends : goal.returns-then-has_text_room-clause-ends
returns-then-has_text_room-clause-ends c = search rules

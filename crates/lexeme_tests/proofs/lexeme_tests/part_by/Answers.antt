use Rattle.yaml_lexeme.proofs.Places.CursorMoves.{at_front}
use Rattle.lexeme_tests.proofs.lexeme_tests.part_by.Goals as goal

pub part-requires-clause-place : goal.part-requires-clause-place
part-requires-clause-place g c = (0, at_front c.in_ok-text.text.chars)

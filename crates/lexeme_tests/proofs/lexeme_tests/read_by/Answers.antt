use Rattle.yaml_lexeme.proofs.Places.CursorMoves.{at_front}
use Rattle.lexeme_tests.proofs.lexeme_tests.read_by.Goals as goal

pub read-read-requires-clause-place : goal.read-read-requires-clause-place
read-read-requires-clause-place g c = (0, at_front c.in_ok-text.text.chars)

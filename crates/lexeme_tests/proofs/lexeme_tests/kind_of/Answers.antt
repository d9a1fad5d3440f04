use Rattle.yaml_lexeme.proofs.Places.CursorMoves.{at_front}
use Rattle.lexeme_tests.proofs.lexeme_tests.kind_of.Goals as goal

pub yaml_lexeme_kind-requires : goal.yaml_lexeme_kind-requires
yaml_lexeme_kind-requires c = (0, at_front c.in_ok-text.text.chars)

use Rattle.yaml_lexeme.proofs.Places.CursorMoves.{at_front}
use Rattle.lexeme_tests.proofs.lexeme_tests.decider_at.Goals as goal

pub yaml_decider_at-requires : goal.yaml_decider_at-requires
yaml_decider_at-requires c = (0, at_front c.in_ok-text.text.chars)

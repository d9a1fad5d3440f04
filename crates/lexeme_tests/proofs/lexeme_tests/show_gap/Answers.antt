use Rattle.yaml_lexeme.proofs.Places.CursorMoves.{at_front}
use Rattle.lexeme_tests.proofs.lexeme_tests.show_gap.Goals as goal

pub yaml_gap-broken-requires : goal.yaml_gap-broken-requires
yaml_gap-broken-requires c = (0, at_front c.in_ok-text.text.chars)

use Rattle.std.proofs.Common.{sym}
use Rattle.yaml_lexeme.proofs.Places.CursorMoves.{at_front}
use Rattle.lexeme_tests.proofs.lexeme_tests.lexed.Goals as goal

pub yaml_lexeme_kind-requires : goal.yaml_lexeme_kind-requires
yaml_lexeme_kind-requires c = (0, at_front c.in_ok-text.text.chars)

pub yaml_lexeme_at-requires-clause-place : goal.yaml_lexeme_at-requires-clause-place
yaml_lexeme_at-requires-clause-place c = let m = at_front c.in_ok-text.text.chars in (0, m, sym (c.in-Some.ensures 0 m))

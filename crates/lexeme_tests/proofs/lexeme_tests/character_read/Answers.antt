use Rattle.std.proofs.Common.{◌∙◌, Some, ap, sym}
use Rattle.yaml_lexeme.proofs.Places.CursorMoves.{at_front}
use Rattle.lexeme_tests.proofs.lexeme_tests.character_read.Goals as goal

pub yaml_lexeme_kind-requires : goal.yaml_lexeme_kind-requires
yaml_lexeme_kind-requires c = (0, at_front c.in_ok-text.text.chars)

pub yaml_read_character-requires-clause-place : goal.yaml_read_character-requires-clause-place
yaml_read_character-requires-clause-place c = let f = at_front c.in_ok-text.text.chars in (0, f, (c.args.in_flow, sym (c.yaml_lexeme_kind.ensures 0 f) ∙ c.in-Some.is))

pub yaml_read_marker-requires : goal.yaml_read_marker-requires
yaml_read_marker-requires c = let f = at_front c.in_ok-text.text.chars in (0, f, (c.args.in_flow, sym (c.yaml_lexeme_kind.ensures 0 f) ∙ c.in-Some.is ∙ ap Some c.in-DOCUMENT_START.is))

pub yaml_read_marker-requires-in-DOCUMENT_END : goal.yaml_read_marker-requires-in-DOCUMENT_END
yaml_read_marker-requires-in-DOCUMENT_END c = let f = at_front c.in_ok-text.text.chars in (0, f, (c.args.in_flow, sym (c.yaml_lexeme_kind.ensures 0 f) ∙ c.in-Some.is ∙ ap Some c.in-DOCUMENT_END.is))

use Rattle.std.proofs.Common.{ap, get_or, ◌∙◌}
use Rattle.yaml_text.specs.Classes.{is_break}
use Rattle.yaml_text.specs.inside.Cursor.{At}
use Rattle.yaml_text.proofs.Marks.MarkMoves.{stands_there}
use Rattle.yaml_text.proofs.mark.mark_counter_t.is_break.Goals as goal

pub returns : goal.returns
returns c = c.IS_BREAK.ensures.character _ (stands_there _ _ c.self.invariant) ∙ ap (λ (a : At). is_break (get_or a.left 0 0)) c.self.view_is

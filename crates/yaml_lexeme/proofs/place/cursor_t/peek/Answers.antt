use Rattle.std.proofs.Common.{◌∙◌, ap, drop, List, ℕ}
use Rattle.std.specs.Str.{chars}
use Rattle.std.proofs.lemmas.List.{drop-drop}
use Rattle.yaml_lexeme.proofs.place.cursor_t.peek.Goals as goal

pub count-preserved : goal.count-preserved
count-preserved c = (c.past_char-left.ensures.text, c.past_char-left.ensures.rest ∙ ap (λ (x : List ℕ). drop 1 x) c.count.invariant.1 ∙ drop-drop 1 c.count.counter (chars c.self.inside.bytes.now))

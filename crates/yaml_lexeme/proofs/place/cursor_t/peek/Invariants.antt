use Rattle.std.proofs.Common.{◌≡◌, drop}
use Rattle.std.specs.Str.{chars}
use Rattle.yaml_text.specs.TextBytes.{IsText}
use Rattle.yaml_lexeme.proofs.place.cursor_t.peek.Given as goal

abbrev pub invariant-count : goal.invariant-count
invariant-count l = IsText l.left × (chars l.left ≡ drop l.counter (chars l.initial.left))

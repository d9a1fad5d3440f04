use Rattle.std.proofs.Common.{◌≡◌, length}
use Rattle.yaml_lexeme.specs.Reading.{with_front}
use Rattle.yaml_lexeme.specs.inside.Words.{links}
use Rattle.yaml_lexeme.proofs.plain.take_links.Given as goal

abbrev pub invariant-links : goal.invariant-links
invariant-links l = with_front l.fn.scalar.value.items (links l.in_flow l.least l.fn.cursor) ≡ with_front l.scalar.value.items (links l.in_flow l.least l.cursor)

abbrev pub decreases-links : goal.decreases-links
decreases-links l = length l.cursor.rest

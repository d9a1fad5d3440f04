use Rattle.std.proofs.Common.{◌≡◌}
use Rattle.yaml_lexeme.proofs.Readers.DirectiveNumbers.{Digits}
use Rattle.yaml_lexeme.proofs.directive.take_number.Given as goal

abbrev pub invariant-digits : goal.invariant-digits
invariant-digits l = Digits l.cursor l.k l.value × (l.cursor ≡ l.fn.cursor)

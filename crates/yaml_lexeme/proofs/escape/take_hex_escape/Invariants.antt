use Rattle.std.proofs.Common.{◌≡◌}
use Rattle.yaml_lexeme.specs.Place.{skip}
use Rattle.yaml_lexeme.proofs.Readers.EscapeDigits.{Digits}
use Rattle.yaml_lexeme.proofs.escape.take_hex_escape.Given as goal

abbrev pub invariant-digits : goal.invariant-digits
invariant-digits l = Digits l.fn.cursor l.k l.value × (l.at ≡ skip l.k l.fn.cursor)

use Rattle.std.proofs.Common.{◌≡◌}
use Rattle.yaml_lexeme.specs.Place.{skip}
use Rattle.yaml_lexeme.proofs.escape.pass_four.Given as goal

abbrev pub invariant-digits : goal.invariant-digits
invariant-digits l = l.cursor ≡ skip l.k l.fn.cursor

use Rattle.std.proofs.Common.{◌-◌}
use Rattle.yaml_lexeme.proofs.Readers.UriOctets.{Octets}
use Rattle.yaml_lexeme.specs.Reading.{with_front}
use Rattle.yaml_lexeme.specs.Uri.{next_octets}
use Rattle.yaml_lexeme.proofs.uri.take_next_octets.Given as goal

abbrev pub invariant-octets : goal.invariant-octets
invariant-octets l = Octets (l.n - l.counter) l.cursor l.out.items (with_front l.fn.out.items (next_octets l.n l.fn.cursor))

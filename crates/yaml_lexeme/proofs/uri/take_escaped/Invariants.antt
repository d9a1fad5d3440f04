use Rattle.std.proofs.Common.{length}
use Rattle.yaml_lexeme.proofs.Readers.UriRuns.{Escapes}
use Rattle.yaml_lexeme.specs.Reading.{with_front}
use Rattle.yaml_lexeme.specs.Uri.{uri}
use Rattle.yaml_lexeme.proofs.uri.take_escaped.Given as goal

abbrev pub invariant-escapes : goal.invariant-escapes
invariant-escapes l = Escapes l.listed l.cursor l.out.items (with_front l.fn.piece (uri l.listed l.fn.cursor))

abbrev pub decreases-escapes : goal.decreases-escapes
decreases-escapes l = length l.cursor.rest

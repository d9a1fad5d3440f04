use Rattle.std.proofs.Common.{arith}
use Rattle.yaml_lexeme.proofs.Readers.UriRuns.{no_run}
use Rattle.yaml_lexeme.proofs.uri.push_uri_run.Goals as goal

pub returns-then-peek-eq37-clause-end : goal.returns-then-peek-eq37-clause-end
returns-then-peek-eq37-clause-end c = no_run c.args.listed c.args.cursor.now (omega arith)

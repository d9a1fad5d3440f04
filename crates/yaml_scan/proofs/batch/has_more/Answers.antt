use Rattle.std.proofs.Common.{rules}
use Rattle.yaml_scan.proofs.batch.has_more.Goals as goal

pub returns-then-not-session-clause-none : goal.returns-then-not-session-clause-none
returns-then-not-session-clause-none c = search rules

use Rattle.std.proofs.Common.{rules}
use Rattle.yaml_scan.proofs.session.session_t.fault.Goals as goal

pub returns-then-self : goal.returns-then-self
returns-then-self c = search rules

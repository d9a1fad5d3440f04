use Rattle.std.proofs.Common.{rules}
use Rattle.yaml_scan.proofs.keys.candidate_t.is_live.Goals as goal

pub returns-then-mark-self : goal.returns-then-mark-self
returns-then-mark-self c = search rules

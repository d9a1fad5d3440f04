use Rattle.std.proofs.Common.{refl}
use Rattle.yaml_scan.proofs.session.session_t.close.Goals as goal

pub returns : goal.returns
returns c = let f = c.fault_at-fault in (f.result, f.ensures, refl)

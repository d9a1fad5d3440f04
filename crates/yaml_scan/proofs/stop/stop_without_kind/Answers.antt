use Rattle.std.proofs.Common.{sym, subst}
use Rattle.yaml_text.specs.Fault.{Fault}
use Rattle.yaml_scan.specs.inside.Scanner.{scanner_of}
use Rattle.yaml_scan.specs.inside.Scanning.{Offends}
use Rattle.yaml_scan.proofs.RunningStep.StepTests.{no_kind_there}
use Rattle.yaml_scan.proofs.stop.stop_without_kind.Goals as goal

pub keep_nearest-requires : goal.keep_nearest-requires
keep_nearest-requires g c = let w = c.requires.1 in
    (w.can, subst (λ (f : Fault). Offends g.before (scanner_of c.args.text.now c.args.state.now) f) (sym c.make_scanner_fault-fault.ensures) (no_kind_there g.before (scanner_of c.args.text.now c.args.state.now) c.requires.0 w c.requires.2))

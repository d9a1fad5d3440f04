use Rattle.std.proofs.Common.{refl, arith}
use Rattle.yaml_scan.specs.inside.Kept.{scan_of}
use Rattle.yaml_scan.proofs.RunningCalls.KeptCalls.{begun_before}
use Rattle.yaml_scan.proofs.scanner.scanner_t.start.Goals as goal

pub returns-then-self-gt0 : goal.returns-then-self-gt0
returns-then-self-gt0 c = let r = c.requires.is in let m = c.if-self-gt0.true in
    (record { setting = refl; text = r.text c.requires.still_open (omega arith) }, begun_before (scan_of c.args.input.now c.args.self.now) r.sound c.requires.still_open (omega arith))

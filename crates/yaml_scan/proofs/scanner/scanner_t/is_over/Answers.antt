use Rattle.yaml_scan.proofs.RunningCalls.KeptCalls.{over_is}
use Rattle.yaml_scan.proofs.scanner.scanner_t.is_over.Goals as goal

pub returns : goal.returns
returns c = λ p k. over_is p c.args.self.now k

use Rattle.std.proofs.Common.{subst}
use Rattle.yaml_scan.specs.Parser.{Parser}
use Rattle.yaml_scan.specs.inside.Kept.{IsKept}
use Rattle.yaml_scan.proofs.RunningCalls.KeptCalls.{is_kept}
use Rattle.yaml_scan.proofs.scanner.scanner_t.new.Goals as goal

pub returns : goal.returns
returns c = let P = c.parser.inside in subst (λ (z : Parser). IsKept z P.scanner) c.parser.view_is (is_kept P.input.now P.scanner c.parser.invariant.scanner)

use Rattle.std.proofs.Common.{◌≡◌}
use Rattle.yaml_scan.specs.Parser.{Parser}
use Rattle.yaml_scan.specs.inside.Kept.{IsKept}
use Rattle.scan_tests.proofs.kept_tests.peek_and_give.Given as goal

abbrev pub invariant-tokens : goal.invariant-tokens
invariant-tokens l = (p : Parser) × (p.input ≡ l.held.input.now) × IsKept p l.held.kept

use Rattle.std.proofs.Common.{◌≡◌}
use Rattle.yaml_scan.specs.Fed.{Fed}
use Rattle.yaml_scan.specs.inside.Feeding.{IsFed}
use Rattle.scan_tests.proofs.fed_tests.scan_bytes.Given as goal

abbrev pub invariant-bytes : goal.invariant-bytes
invariant-bytes l = (p : Fed) × (p.given ≡ l.course.came.items) × (p.whole ≡ l.course.last) × IsFed p l.course.fed

use Rattle.std.proofs.Common.{◌≡◌}
use Rattle.yaml_scan.specs.Parser.{Parser}
use Rattle.yaml_scan.specs.inside.Kept.{IsKept}
use Rattle.testbench.proofs.kept.give_each.Given as goal

abbrev pub invariant-calls : goal.invariant-calls
invariant-calls l = (p : Parser) × (p.input ≡ l.held.input.now) × IsKept p l.held.kept

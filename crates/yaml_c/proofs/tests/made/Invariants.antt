use Rattle.std.proofs.Common.{◌≡◌, true}
use Rattle.yaml_c.specs.Held.{Scan, IsAt}
use Rattle.yaml_c.specs.Kinds.{Whole}
use Rattle.yaml_c.proofs.tests.made.Given as goal

abbrev pub invariant-calls : goal.invariant-calls
invariant-calls l = l.handle.live ≡ true → Whole l.handle.held.value (λ h. (s : Scan) × (s.input ≡ l.input) × IsAt s h)

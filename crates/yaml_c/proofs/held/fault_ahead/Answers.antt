use Rattle.std.proofs.Common.{ap, sym, ◌∙◌}
use Rattle.yaml_c.specs.Ahead.{Ahead, read_fault}
use Rattle.yaml_c.proofs.Batches.{fault_ahead}
use Rattle.yaml_c.proofs.held.fault_ahead.Goals as goal

pub returns-in-FAULT : goal.returns-in-FAULT
returns-in-FAULT c = λ p a k h. let w = fault_ahead _ _ a h c.in-FAULT.is in c.fault.ensures p k ∙ w.1 ∙ sym (ap (λ (z : Ahead). read_fault z) w.2)

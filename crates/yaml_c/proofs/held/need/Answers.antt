use Rattle.std.proofs.Common.{rules, ap, sym, ◌∙◌}
use Rattle.yaml_c.specs.Next.{Next, need}
use Rattle.yaml_c.specs.Record.{held}
use Rattle.yaml_c.proofs.Batches.{fault_is_kept, next_is_fault}
use Rattle.yaml_c.proofs.held.need.Goals as goal

pub returns-in-Some-fault : goal.returns-in-Some-fault
returns-in-Some-fault c = λ p a k h.
    let e = next_is_fault p _ a _ h c.in-FAULT.is (c.in-Some-fault.ensures p k) in
    c.fault_len.ensures ∙ sym (ap (λ (n : Next). held (need n)) e)

pub returns-in-None-fault : goal.returns-in-None-fault
returns-in-None-fault c = λ p a k h. absurd (fault_is_kept p _ a h c.in-FAULT.is (c.in-None-fault.ensures p k))

pub returns-in-Some : goal.returns-in-Some
returns-in-Some c = search rules

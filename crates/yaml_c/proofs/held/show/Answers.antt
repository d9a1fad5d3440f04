use Rattle.std.proofs.Common.{sym, subst}
use Rattle.yaml_c.specs.Held.{Shows}
use Rattle.yaml_c.specs.Next.{Next}
use Rattle.yaml_c.specs.inside.Spelled.{spelled_of}
use Rattle.yaml_c.proofs.Batches.{fault_is_kept, next_is_fault}
use Rattle.yaml_c.proofs.held.show.Goals as goal

pub unreachable-requires-in-None-fault : goal.unreachable-requires-in-None-fault
unreachable-requires-in-None-fault c = let r = c.requires in
    fault_is_kept r.0 _ r.1 r.3 c.in-FAULT.is (c.in-None-fault.ensures r.0 r.2)

pub returns-in-Some-fault : goal.returns-in-Some-fault
returns-in-Some-fault c = λ p a k h.
    let e = next_is_fault p _ a _ h c.in-FAULT.is (c.in-Some-fault.ensures p k) in
    subst (λ (n : Next). Shows (spelled_of c.args.spelled) n c.args.token.now c.args.texts.now c.args.token.now c.show_fault.new.texts c.show_fault.new.answer c.show_fault.result)
    (sym e) (c.show_fault.ensures (spelled_of c.args.spelled) c.args.token.now)

use Rattle.std.proofs.Common.{rules, ◌<◌, ◌+◌, length, Some, refl, inr}
use Rattle.yaml_text.specs.Fault.{fault_of}
use Rattle.yaml_c.specs.Answer.{fault_texts}
use Rattle.yaml_c.specs.Next.Next.{FAULT}
use Rattle.yaml_c.proofs.pieces.end_by_fault.Goals as goal

pub returns-clause-ends : goal.returns-clause-ends
returns-clause-ends c = λ p.
    let f = fault_of c.args.fault in
    let tight : length c.args.rooms.now.texts.now < c.args.rooms.now.text_len + length (fault_texts (Some f)) = search rules in
    inr (refl, refl, (f, refl, tight, c.end_full.ensures (FAULT f) c.fault_len-need.ensures))

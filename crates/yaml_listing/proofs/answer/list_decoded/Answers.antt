-- The answer is what decoding gave.
use Rattle.std.proofs.Common.{Ok, Err, ◌++◌, sym, ap, ◌∙◌, inl, inr, refl}
use Rattle.yaml_text.specs.Fault.{fault_of}
use Rattle.yaml_listing.specs.Listing.{text_line, fault_line}
use Rattle.yaml_listing.proofs.answer.list_decoded.Goals as goal

pub returns-in_ok-list_text-in-Ok : goal.returns-in_ok-list_text-in-Ok
returns-in_ok-list_text-in-Ok c = record {
  answer = Ok c.in-Ok.text;
  answers = record { answer_is = inl (sym c.in-Ok.ensures.exact); in_utf8 = λ u. c.in-Ok.ensures.borrowed u };
  lines_are = c.in_ok-list_text-in-Ok.ensures.ok ∙ ap (λ l. l ++ text_line c.in-Ok.text) c.new-lines.ensures.items;
  fault_is = refl;
}

pub returns-in_ok-list_fault-in-Err : goal.returns-in_ok-list_fault-in-Err
returns-in_ok-list_fault-in-Err c = record {
  answer = Err (fault_of c.in-Err.fault);
  answers = record {
    answer_is = elim c.in-Err.ensures.exact [ inl e ↦ inr (ap Err e) | inr e ↦ inl (sym e) ];
    in_utf8 = λ u. c.in-Err.ensures.borrowed u;
  };
  lines_are = c.in_ok-list_fault-in-Err.ensures.ok
      ∙ ap (λ l. l ++ fault_line (fault_of c.in-Err.fault)) c.new-lines.ensures.items;
  fault_is = refl;
}

-- A stream end is one mark, at column 0.
use Rattle.std.proofs.Common.{◌≡◌, ◌==◌, inl, inr, Ok, Err, refl, subst, arith}
use Rattle.std.proofs.lemmas.Bool.{cases_Bool}
use Rattle.std.proofs.lemmas.Bool.Decides.{nat_tests}
use Rattle.yaml_lexeme.specs.declared.kind.yaml_lexeme_kind_t.TheVariants as kind
use Rattle.yaml_lexeme.specs.Lex.{lex}
use Rattle.yaml_lexeme.specs.StreamEnd.{stream_end}
use Rattle.yaml_lexeme.specs.Order.{IsAfter, StreamEndOrder}
use Rattle.yaml_lexeme.specs.Place.{Place}
use Rattle.yaml_lexeme.specs.Reading.{Read}
use Rattle.yaml_lexeme.specs.declared.lex.yaml_context_t.{yaml_context_t}
use Rattle.yaml_lexeme.specs.Lexeme.{Lexeme}
use Rattle.yaml_text.specs.declared.types.yaml_mark_t.{yaml_mark_t}

-- a stream end at p
abbrev Ends : Place → Read Lexeme → Type 0
Ends p (Ok f) = (f.value.end_mark ≡ f.value.start_mark) × (f.value.reach ≡ f.value.start_mark) × IsAfter 0 p.mark f.value.start_mark × (f.value.start_mark.column ≡ 0)
Ends p (Err e) = Unit {0}

end_after : (m : yaml_mark_t) → IsAfter 0 m (stream_end m) × ((stream_end m).column ≡ 0)
end_after m =
    elim (cases_Bool (m.column == 0)) [
      | inl e ↦ rw e (record { index = omega arith; line = omega arith; column = λ e. omega arith }, grind (arith, nat_tests))
      | inr e ↦ rw e (record { index = omega arith; line = omega arith; column = λ e. absurd (omega arith) }, refl)
    ]

end_ends : (c : yaml_context_t) (p : Place) → Ends p (lex kind.STREAM_END c p)
unfolding lex
end_ends c p = let e = end_after p.mark in (refl, refl, e.0, e.1)

pub stream_end_order : StreamEndOrder
stream_end_order c p f e = subst (λ (r : Read Lexeme). Ends p r) e (end_ends c p)

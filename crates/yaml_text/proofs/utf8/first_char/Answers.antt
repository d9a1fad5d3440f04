use Rattle.std.proofs.Common.{◌≡◌, ℕ, Option, Some, None, refl, arith, ap, sym, ◌∙◌}
use Rattle.std.proofs.lemmas.Bool.{true≢false}
use Rattle.yaml_text.specs.Utf8.{value_of, stray_at}
use Rattle.yaml_text.proofs.Characters.Utf8Spelling.{passes, reads_with}
use Rattle.yaml_text.proofs.utf8.first_char.Goals as goal

pub returns-then-width-eq0-clause-none : goal.returns-then-width-eq0-clause-none
returns-then-width-eq0-clause-none c = rw c.refused.ensures (λ d ok b. let p = passes c.args.bytes.now c.width_of-width.result (value_of c.width_of-width.result c.args.bytes.now) d c.width_of-width.ensures (λ i. value_of c.width_of-width.result c.args.bytes.now) ok b in absurd (omega arith))

pub returns-then-bytes-width-clause-none : goal.returns-then-bytes-width-clause-none
returns-then-bytes-width-clause-none c = rw c.refused-then-bytes-width.ensures (λ d ok b. let p = passes c.args.bytes.now c.width_of-width.result (value_of c.width_of-width.result c.args.bytes.now) d c.width_of-width.ensures (λ i. value_of c.width_of-width.result c.args.bytes.now) ok b in absurd (omega arith))

pub returns-in-Some-clause-none : goal.returns-in-Some-clause-none
returns-in-Some-clause-none c = rw c.refused-in-Some.ensures (λ d ok b. let p = passes c.args.bytes.now c.width_of-width.result (value_of c.width_of-width.result c.args.bytes.now) d c.width_of-width.ensures (λ i. value_of c.width_of-width.result c.args.bytes.now) ok b in absurd (cc (p.joined, c.stray_at.ensures.stray, c.in-Some.is, c.width_of-width.ensures)))

pub returns-then-len_of-width-clause-none : goal.returns-then-len_of-width-clause-none
returns-then-len_of-width-clause-none c = rw c.refused-then-len_of-width.ensures (λ d ok b. let p = passes c.args.bytes.now c.width_of-width.result c.code_of-value.result d c.width_of-width.ensures c.code_of-value.ensures.value ok b in absurd (omega arith))

pub returns-then-not-is_scalar-clause-none : goal.returns-then-not-is_scalar-clause-none
returns-then-not-is_scalar-clause-none c = rw c.refused-then-not-is_scalar.ensures (λ d ok b. let p = passes c.args.bytes.now c.width_of-width.result c.code_of-value.result d c.width_of-width.ensures c.code_of-value.ensures.value ok b in absurd (true≢false (sym p.scalar ∙ sym c.is_scalar.ensures ∙ c.if-not-is_scalar.true)))

pub returns-then-not-is_char-clause-none : goal.returns-then-not-is_char-clause-none
returns-then-not-is_char-clause-none c = rw c.refused-then-not-is_char.ensures (λ d ok b. let p = passes c.args.bytes.now c.width_of-width.result c.code_of-value.result d c.width_of-width.ensures c.code_of-value.ensures.value ok b in absurd (true≢false (sym p.char ∙ sym c.is_char.ensures ∙ c.if-not-is_char.true)))

none_left : (o : Option ℕ) → ((x : ℕ) → o ≡ Some x → ⊥) → o ≡ None
none_left None h = refl
none_left (Some x) h = absurd (h x refl)

pub returns-clause-found : goal.returns-clause-found
returns-clause-found c =
    let joined : stray_at c.width_of-width.result c.args.bytes.now ≡ None = ap (λ w. stray_at w c.args.bytes.now) c.width_of-width.ensures ∙ sym c.stray_at.ensures.stray ∙ none_left c.stray_at.result c.in_default.not-Some in
    let r = reads_with c.args.bytes.now c.width_of-width.result c.code_of-value.result c.width_of-width.ensures c.code_of-value.ensures.value (omega arith) (omega arith) joined (omega arith) (sym c.is_scalar.ensures ∙ c.if-not-is_scalar.false) in
    (c.code_of-value.result, sym c.is_char.ensures ∙ c.if-not-is_char.false, r.begins, r.width)

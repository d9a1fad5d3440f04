use Rattle.std.proofs.Common.{◌≡◌, ◌<◌, ℕ, List, [], ◌∷◌, true, false, Ok, refl, sym, ap, ◌∙◌, subst, arith}
use Rattle.std.specs.Prelude.{slice_index}
use Rattle.std.specs.Char.{len_utf8}
use Rattle.yaml_text.specs.Classes.{is_break}
use Rattle.yaml_text.specs.declared.types.yaml_mark_t.{yaml_mark_t}
use Rattle.yaml_lexeme.specs.inside.Runs.{is_solid}
use Rattle.yaml_lexeme.specs.Decider.{IsGap, one_on}
use Rattle.yaml_lexeme.specs.Lex.{lex, says_of}
use Rattle.yaml_lexeme.specs.Answers.{lexeme_at}
use Rattle.yaml_lexeme.specs.Lexeme.{whole_of}
use Rattle.yaml_lexeme.specs.Place.{Place, first, skip, place_at}
use Rattle.yaml_lexeme.specs.inside.Moves.{skip_from}
use Rattle.yaml_lexeme.specs.declared.kind.yaml_lexeme_kind_t.{yaml_lexeme_kind_t}
use Rattle.yaml_lexeme.specs.declared.kind.yaml_lexeme_kind_t.TheVariants as kind
use Rattle.yaml_lexeme.specs.declared.lex.yaml_context_t.{yaml_context_t}
use Rattle.yaml_lexeme.proofs.Readers.GapLines.{gap_none}
use Rattle.yaml_lexeme.proofs.kind.yaml_decider_at.Goals as goal

-- the mark after a character of ASCII that is no break
one_from : (m : yaml_mark_t) (cs : List ℕ) (c : ℕ) → slice_index cs 0 ≡ c → 0 < c → len_utf8 c ≡ 1 → is_break c ≡ false → (skip_from 1 m cs).mark ≡ one_on m
one_from m [] c e some w b = absurd (omega arith)
one_from m (x ∷ cs) c e some w b = rw (e, w, b) refl

one_after : (p : Place) (c : ℕ) → first p ≡ c → 0 < c → len_utf8 c ≡ 1 → is_break c ≡ false → (skip 1 p).mark ≡ one_on p.mark
unfolding skip
one_after p c e some w b = one_from p.mark p.rest c e some w b

no_gap : (p q : Place) → p ≡ q → is_solid (first p) ≡ true → IsGap q q false
no_gap p q e solid = subst (λ (x : Place). IsGap x x false) e (gap_none p solid)

-- a lexeme of one such character
one_lexeme : (k : yaml_lexeme_kind_t) (context : yaml_context_t) (p q : Place) (at : yaml_mark_t) (c : ℕ)
    → lexeme_at k context q ≡ Ok (whole_of (says_of k) q.mark (skip 1 q).mark) → p ≡ q → at ≡ q.mark → first p ≡ c → 0 < c → len_utf8 c ≡ 1 → is_break c ≡ false
    → lexeme_at k context q ≡ Ok (whole_of (says_of k) at (one_on at))
one_lexeme k context p q at c l e m f some w b =
    rw m (l ∙ ap (λ (x : yaml_mark_t). Ok (whole_of (says_of k) q.mark x)) (one_after q c (ap first (sym e) ∙ f) some w b))

pub returns-in-58-clause-gap : goal.returns-in-58-clause-gap
returns-in-58-clause-gap c = λ n i.
    let f : first c.at-cursor.result ≡ 58 = omega (arith, c.peek.ensures) in
    no_gap c.at-cursor.result (place_at c.args.text.now.chars n) (c.at-cursor.ensures.place n i) (rw f refl)

pub returns-in-44-clause-gap : goal.returns-in-44-clause-gap
returns-in-44-clause-gap c = λ n i.
    let f : first c.at-cursor.result ≡ 44 = omega (arith, c.peek.ensures) in
    no_gap c.at-cursor.result (place_at c.args.text.now.chars n) (c.at-cursor.ensures.place n i) (rw f refl)

pub returns-in-93-clause-gap : goal.returns-in-93-clause-gap
returns-in-93-clause-gap c = λ n i.
    let f : first c.at-cursor.result ≡ 93 = omega (arith, c.peek.ensures) in
    no_gap c.at-cursor.result (place_at c.args.text.now.chars n) (c.at-cursor.ensures.place n i) (rw f refl)

pub returns-in-125-clause-gap : goal.returns-in-125-clause-gap
returns-in-125-clause-gap c = λ n i.
    let f : first c.at-cursor.result ≡ 125 = omega (arith, c.peek.ensures) in
    no_gap c.at-cursor.result (place_at c.args.text.now.chars n) (c.at-cursor.ensures.place n i) (rw f refl)

pub returns-in-58-clause-value : goal.returns-in-58-clause-value
unfolding lex
returns-in-58-clause-value c = λ n context i.
    let f : first c.at-cursor.result ≡ 58 = omega (arith, c.peek.ensures) in
    one_lexeme kind.VALUE context c.at-cursor.result (place_at c.args.text.now.chars n) c.args.at 58 refl (c.at-cursor.ensures.place n i) i.mark_is f (omega arith) refl refl

pub returns-in-44-clause-value : goal.returns-in-44-clause-value
unfolding lex
returns-in-44-clause-value c = λ n context i.
    let f : first c.at-cursor.result ≡ 44 = omega (arith, c.peek.ensures) in
    one_lexeme kind.FLOW_ENTRY context c.at-cursor.result (place_at c.args.text.now.chars n) c.args.at 44 refl (c.at-cursor.ensures.place n i) i.mark_is f (omega arith) refl refl

pub returns-in-93-clause-value : goal.returns-in-93-clause-value
unfolding lex
returns-in-93-clause-value c = λ n context i.
    let f : first c.at-cursor.result ≡ 93 = omega (arith, c.peek.ensures) in
    one_lexeme kind.FLOW_SEQUENCE_END context c.at-cursor.result (place_at c.args.text.now.chars n) c.args.at 93 refl (c.at-cursor.ensures.place n i) i.mark_is f (omega arith) refl refl

pub returns-in-125-clause-value : goal.returns-in-125-clause-value
unfolding lex
returns-in-125-clause-value c = λ n context i.
    let f : first c.at-cursor.result ≡ 125 = omega (arith, c.peek.ensures) in
    one_lexeme kind.FLOW_MAPPING_END context c.at-cursor.result (place_at c.args.text.now.chars n) c.args.at 125 refl (c.at-cursor.ensures.place n i) i.mark_is f (omega arith) refl refl

-- The marks of every lexeme are in order.
use Rattle.std.proofs.Common.{◌≡◌, ◌<◌, Bool, true, false, inl, inr, length, Some, Ok, Err, refl, sym, ap, ◌∙◌, subst, arith}
use Rattle.std.proofs.lemmas.Bool.{cases_Bool}
use Rattle.yaml_lexeme.specs.declared.kind.yaml_lexeme_kind_t.TheVariants as kind
use Rattle.yaml_lexeme.proofs.CountedMarks.WholeLexemes.{is_end, lexeme_is}
use Rattle.yaml_lexeme.proofs.CountedMarks.WholePlaces.{clear_ahead, clear_next}
use Rattle.yaml_lexeme.proofs.MarkOrder.PlaceOrder.{after_trans, after_less, gap_order, marks_after}
use Rattle.yaml_lexeme.proofs.MarkOrder.ReadingAhead.{ahead_on}
use Rattle.yaml_lexeme.proofs.MarkOrder.StreamEndOrder.{stream_end_order}
use Rattle.yaml_lexeme.proofs.Places.PlaceMoves.{is_there, some_char}
use Rattle.yaml_lexeme.specs.Gap.{gap}
use Rattle.yaml_lexeme.specs.Kind.{kind_at}
use Rattle.yaml_lexeme.specs.Lex.{lex, in_flow}
use Rattle.yaml_lexeme.specs.Lexeme.{Lexeme}
use Rattle.yaml_lexeme.specs.Order.{IsAfter, Spans, LexemeSpans, LexemeOrder, is_stream_end, Follows, LexemeFollows}
use Rattle.yaml_lexeme.specs.Place.{Place, first}
use Rattle.yaml_lexeme.specs.Reading.{Found}
use Rattle.yaml_lexeme.specs.declared.kind.yaml_lexeme_kind_t.{yaml_lexeme_kind_t}
use Rattle.yaml_lexeme.specs.declared.lex.yaml_context_t.{yaml_context_t}
use Rattle.yaml_text.specs.Classes.{is_z}
use Rattle.yaml_text.specs.declared.types.yaml_mark_t.{yaml_mark_t}

end_kind : (flow : Bool) (p : Place) → is_z (first p) ≡ true → kind_at flow p ≡ Some kind.STREAM_END
unfolding kind_at
end_kind flow p h = rw h refl

there : (flow : Bool) (k : yaml_lexeme_kind_t) (p : Place) → kind_at flow p ≡ Some k → (k ≡ kind.STREAM_END → ⊥) → 0 < length p.rest
there flow k p h other =
    elim (cases_Bool (is_z (first p))) [
      | inl e ↦ let same : k ≡ kind.STREAM_END = cc (end_kind flow p e) in absurd (other same)
      | inr e ↦ is_there p 0 (some_char (first p) e)
    ]

pub lexeme_spans : LexemeSpans
lexeme_spans k c p f h other e =
    let l = lexeme_is k c p f h other e in
    let m = l.2 in
    (l.0, l.1, record { between = m.at; is = m.is; taken = clear_next p m.at (there (in_flow c) k p h other) m.taken; read = clear_ahead m.at f.end m.read })

in_order : (p : Place) (l : Lexeme) (q : Place) → l.start_mark ≡ p.mark → l.reach ≡ q.mark → Spans 1 p l.end_mark q → IsAfter 1 l.start_mark l.end_mark × IsAfter 0 l.end_mark l.reach × IsAfter 1 l.start_mark l.reach
in_order p l q s r t =
    rw (s, r, t.is) (marks_after 1 p t.between t.taken, marks_after 0 t.between q t.read, marks_after 1 p q (ahead_on 1 p t.between q t.taken t.read))

pub lexeme_order : LexemeOrder
lexeme_order k c p f h other e = let s = lexeme_spans k c p f h other e in in_order p f.value f.end s.0 s.1 s.2

-- a lexeme after a gap that ends at p
follows_other : (k : yaml_lexeme_kind_t) (c : yaml_context_t) (so_far : yaml_mark_t) (p : Place) (f : Found Lexeme) → (k ≡ kind.STREAM_END → ⊥) → is_stream_end k ≡ false → IsAfter 0 so_far p.mark → kind_at (in_flow c) p ≡ Some k → lex k c p ≡ Ok f → Follows k so_far f.value
follows_other k c so_far p f other no_end a h e =
    let s = lexeme_spans k c p f h other e in
    let o = lexeme_order k c p f h other e in
    record {
      start = rw s.0 a;
      end = after_less 0 1 f.value.start_mark f.value.end_mark (omega arith) o.0;
      reach = o.1;
      takes = λ x. o.0;
      last = λ x. absurd (cc no_end);
    }

same_mark : (a b : yaml_mark_t) → b ≡ a → IsAfter 0 a b
same_mark a b e = rw e (record { index = omega arith; line = omega arith; column = λ x. omega arith })

follows_end : (c : yaml_context_t) (so_far : yaml_mark_t) (p : Place) (f : Found Lexeme) → IsAfter 0 so_far p.mark → lex kind.STREAM_END c p ≡ Ok f → Follows kind.STREAM_END so_far f.value
follows_end c so_far p f a e =
    let s = stream_end_order c p f e in
    record {
      start = after_trans 0 0 so_far p.mark f.value.start_mark a s.2;
      end = same_mark f.value.start_mark f.value.end_mark s.0;
      reach = same_mark f.value.end_mark f.value.reach (s.1 ∙ sym s.0);
      takes = λ x. absurd cc;
      last = λ x. (s.0, s.1, s.3);
    }

follows : (k : yaml_lexeme_kind_t) (c : yaml_context_t) (so_far : yaml_mark_t) (p : Place) (f : Found Lexeme) → IsAfter 0 so_far p.mark → kind_at (in_flow c) p ≡ Some k → lex k c p ≡ Ok f → Follows k so_far f.value
follows k c so_far p f a h e =
    elim (is_end k) [
      | Ok same ↦ subst (λ (j : yaml_lexeme_kind_t). Follows j so_far f.value) (sym same) (follows_end c so_far p f a (ap (λ (j : yaml_lexeme_kind_t). lex j c p) (sym same) ∙ e))
      | Err other ↦ follows_other k c so_far p f other.0 other.1 a h e
    ]

pub lexeme_follows : LexemeFollows
lexeme_follows k c allowed q f h e = follows k c q.mark (gap (in_flow c) allowed q).0 f (gap_order (in_flow c) allowed q).1 h e

-- The marks of places that are ahead are in order, and a gap ends ahead.
use Rattle.std.proofs.Common.{◌≡◌, ℕ, zero, suc, ◌+◌, ◌<◌, ◌≤◌, Bool, true, false, cond, length, sym, subst, arith}
use Rattle.std.proofs.lemmas.Bool.Decides.{nat_tests}
use Rattle.std.specs.Char.{len_utf8}
use Rattle.yaml_text.specs.declared.types.yaml_mark_t.{yaml_mark_t}
use Rattle.yaml_lexeme.proofs.CountedMarks.WholePlaces.{clear_ahead}
use Rattle.yaml_lexeme.proofs.Locality.GapLocality.{gap_clear}
use Rattle.yaml_lexeme.proofs.Places.PlaceMoves.{skip_one, skip_none, skip_more, length_one}
use Rattle.yaml_lexeme.specs.Gap.{gap}
use Rattle.yaml_lexeme.specs.Order.{IsBeyond, IsAfter, GapOrder}
use Rattle.yaml_lexeme.specs.Place.{Place, peek, skip}
use Rattle.yaml_lexeme.specs.inside.Moves.{ends_line}

pub after_trans : (m n : ℕ) (a b c : yaml_mark_t) → IsAfter m a b → IsAfter n b c → IsAfter (m + n) a c
after_trans m n a b c x y = record {
  index = omega (arith, x.index, y.index);
  line = omega (arith, x.line, y.line);
  column = λ e.
      let first : a.line ≡ b.line = omega (arith, x.line, y.line) in
      let second : b.line ≡ c.line = omega (arith, x.line, y.line) in
      omega (arith, x.column first, y.column second);
}

after_here : (a : yaml_mark_t) → IsAfter 0 a a
after_here a = record { index = omega arith; line = omega arith; column = λ e. omega arith }

pub after_less : (m n : ℕ) (a b : yaml_mark_t) → m ≤ n → IsAfter n a b → IsAfter m a b
after_less m n a b h x = record { index = omega (arith, x.index); line = x.line; column = λ e. omega (arith, x.column e) }

width_some : (c : ℕ) → 1 ≤ len_utf8 c
width_some c = grind (arith, nat_tests)

after_after : (b : Bool) (m : yaml_mark_t) (w : ℕ) → 1 ≤ w → IsAfter 1 m (cond b (record { index = m.index + w; line = m.line + 1; column = 0 }) (record { index = m.index + w; line = m.line; column = m.column + 1 }))
after_after true m w h = record { index = omega arith; line = omega arith; column = λ e. absurd (omega arith) }
after_after false m w h = record { index = omega arith; line = omega arith; column = λ e. omega arith }

one_after : (p : Place) → 0 < length p.rest → IsAfter 1 p.mark (skip 1 p).mark
one_after p h = rw (skip_one p h) (after_after (ends_line (peek p 0) (peek p 1)) p.mark (len_utf8 (peek p 0)) (width_some (peek p 0)))

skip_after : (k : ℕ) (p : Place) → k ≤ length p.rest → IsAfter k p.mark (skip k p).mark
skip_after zero p h = rw (skip_none p) (after_here p.mark)
skip_after (suc k) p h =
    rw (skip_more k p) (after_less (suc k) (1 + k) p.mark (skip k (skip 1 p)).mark (omega arith)
    (after_trans 1 k p.mark (skip 1 p).mark (skip k (skip 1 p)).mark (one_after p (omega arith)) (skip_after k (skip 1 p) (omega (arith, length_one p)))))

-- the marks of places
pub marks_after : (n : ℕ) (p q : Place) → IsBeyond n p q → IsAfter n p.mark q.mark
marks_after n p q a = subst (λ (x : Place). IsAfter n p.mark x.mark) (sym a.is) (after_less n a.count p.mark (skip a.count p).mark a.least (skip_after a.count p a.within))

pub gap_order : GapOrder
gap_order flow allowed p = let a = clear_ahead p (gap flow allowed p).0 (gap_clear flow allowed p) in (a, marks_after 0 p (gap flow allowed p).0 a)

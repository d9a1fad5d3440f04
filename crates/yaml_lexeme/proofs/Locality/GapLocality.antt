-- Gaps are good.
use Rattle.std.proofs.Common.{◌≡◌, ℕ, zero, suc, ◌+◌, ◌≤◌, Bool, false, not, ◌==◌, ◌&&◌, ◌||◌, nat_lt, length, refl, sym, ap, ◌∙◌, subst, arith, inl, inr}
use Rattle.yaml_lexeme.proofs.Readers.GapLines.{any_fuel}
use Rattle.yaml_lexeme.proofs.CountedMarks.WholePlaces.{Clear, clear_trans, clear_ahead, whole_after, break_whole, sure_in_line, sure_gap, is_not}
use Rattle.yaml_lexeme.proofs.Locality.ComposedReaders.{IsLike, found_here, found_on, like_found, like_clear, to, step_run, step_value, step_if, like_step, local_of}
use Rattle.std.proofs.lemmas.Bool.{and_parts}
use Rattle.yaml_lexeme.proofs.Locality.LocalReaders.{distance_on, is_local_to}
use Rattle.yaml_lexeme.proofs.Parts.ReadResults.{value_or, end_or}
use Rattle.yaml_lexeme.specs.Reading.{Read, found}
use Rattle.yaml_lexeme.specs.Classes.{is_in_line}
use Rattle.yaml_lexeme.specs.Gap.{byte_order_mark, is_gap_blank, after_mark, after_comment, after_gap_line, after_gap_lines, gap}
use Rattle.yaml_lexeme.proofs.Locality.AgreeingPlaces.{Agree, by_agreeing}
use Rattle.yaml_lexeme.specs.Locality.{GapIsLocal}
use Rattle.yaml_lexeme.specs.Place.{Place, first, skip, after_run, break_len}
use Rattle.yaml_lexeme.specs.Order.{distance}

pub break_same : (n : ℕ) (p q : Place) → Agree n p q → 8 ≤ n → break_len q ≡ break_len p
break_same n p q a h = rw (a.same 0 (omega arith), a.same 1 (omega arith)) refl

pub comment_step : IsLike (to after_comment)
comment_step n p q a = step_if (first p == 0x23) (first q == 0x23) (λ h. rw (a.same 0 (omega arith)) refl) (λ e. step_run is_in_line sure_in_line n p q a) (λ e. found_here)

mark_step : IsLike (to after_mark)
mark_step n p q a =
    step_if (p.mark.column == 0 && first p == byte_order_mark) (q.mark.column == 0 && first q == byte_order_mark) (λ h. rw (a.mark, a.same 0 (omega arith)) refl)
    (λ e. found_on 1 (whole_after 0 p (is_not (first p) byte_order_mark refl (and_parts (p.mark.column == 0) (first p == byte_order_mark) e).1))) (λ e. found_here)

line_step : (tabs : Bool) → IsLike (to (after_gap_line tabs))
unfolding after_gap_line
line_step tabs n p q a =
    let s = like_step (to (after_run (is_gap_blank tabs))) (step_run (is_gap_blank tabs) (sure_gap tabs)) n p q (after_mark p) (after_mark q) a (mark_step n p q a) in
    like_step (to after_comment) comment_step n p q (after_run (is_gap_blank tabs) (after_mark p)) (after_run (is_gap_blank tabs) (after_mark q)) a s

pub break_step : IsLike (to (λ p. skip (break_len p) p))
break_step n p q a = like_found (break_len p) refl (break_whole p) (λ h. ap (λ (i : ℕ). skip i q) (break_same n p q a (omega arith))) (λ h. refl)

lines_step : (m : ℕ) (flow : Bool) → IsLike (to (after_gap_lines m flow))
unfolding after_gap_lines
lines_step zero flow n p q a = found_here
lines_step (suc m) flow n p q a =
    let x = skip (break_len p) p in
    let y = skip (break_len q) q in
    let s = like_step (to (after_gap_line flow)) (line_step flow) n p q x y a (break_step n p q a) in
    step_if (break_len p == 0) (break_len q == 0) (λ h. ap (λ (i : ℕ). i == 0) (break_same n p q a h)) (λ e. found_here)
    (λ e. like_step (to (after_gap_lines m flow)) (lines_step m flow) n p q (after_gap_line flow x) (after_gap_line flow y) a s)

pub gap_clear : (flow allowed : Bool) (p : Place) → Clear p (gap flow allowed p).0
unfolding gap
gap_clear flow allowed p =
    let a = after_gap_line (flow || not allowed) p in
    clear_trans (like_clear (to (after_gap_line (flow || not allowed))) (line_step (flow || not allowed)) p) (like_clear (to (after_gap_lines (length a.rest) flow)) (lines_step (length a.rest) flow) a)

-- a gap whose lines are at most m
abbrev gap_read : ℕ → Bool → Bool → Place → Read Bool
gap_read m flow tabs p = let a = after_gap_line tabs p in found (nat_lt 0 (break_len a)) (after_gap_lines m flow a)

gap_like : (m : ℕ) (flow tabs : Bool) → IsLike (gap_read m flow tabs)
gap_like m flow tabs n p q a =
    like_step (λ x. found (nat_lt 0 (break_len x)) (after_gap_lines m flow x))
    (λ i x y b. step_value (nat_lt 0 (break_len x)) (nat_lt 0 (break_len y)) (λ h. ap (λ (k : ℕ). nat_lt 0 k) (break_same i x y b h)) (lines_step m flow i x y b))
    n p q (after_gap_line tabs p) (after_gap_line tabs q) a (line_step tabs n p q a)

-- a gap that ends k characters on
pub gap_local_to : (flow allowed : Bool) (p q : Place) (k : ℕ) → (gap flow allowed p).0 ≡ skip k p → Agree (k + 8) p q → gap flow allowed q ≡ (skip k q, (gap flow allowed p).1)
unfolding gap
gap_local_to flow allowed p q k e a =
    let tabs = flow || not allowed in
    let x = after_gap_line tabs p in
    let y = after_gap_line tabs q in
    let m = length x.rest + length y.rest in
    let xz : after_gap_lines (length x.rest) flow x ≡ after_gap_lines m flow x = any_fuel (length x.rest) m flow x (omega arith) (omega arith) in
    let yz : after_gap_lines (length y.rest) flow y ≡ after_gap_lines m flow y = any_fuel (length y.rest) m flow y (omega arith) (omega arith) in
    let same : gap_read m flow tabs q ≡ found (nat_lt 0 (break_len x)) (skip k q) = is_local_to (gap_read m flow tabs) (local_of (gap_read m flow tabs) (gap_like m flow tabs)) p q k (sym xz ∙ e) a in
    rw (yz ∙ ap (end_or y) same, ap (value_or false) same) refl

pub gap_is_local : GapIsLocal
gap_is_local flow allowed p q a =
    let end = (gap flow allowed p).0 in
    let k = distance p end in
    let is = distance_on p end (clear_ahead p end (gap_clear flow allowed p)) in
    elim (by_agreeing (k + 8) p q a) [
      | inl same ↦ subst (λ (x : Place). gap flow allowed x ≡ (skip k x, (gap flow allowed p).1)) same (ap (λ (x : Place). (x, (gap flow allowed p).1)) is)
      | inr long ↦ gap_local_to flow allowed p q k is long
    ]

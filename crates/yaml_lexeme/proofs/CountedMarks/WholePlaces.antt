-- Reading ahead from a place that is not between CR and LF to another such place.
use Rattle.std.proofs.Common.{◌≡◌, ℕ, zero, suc, ◌+◌, ◌<◌, ◌≤◌, Bool, true, false, ◌==◌, ◌&&◌, if◌then◌else◌, inl, inr, List, [], ◌∷◌, length, slice_index, refl, sym, ap, ◌∙◌, arith}
use Rattle.std.proofs.lemmas.Bool.{cases_Bool, cases_lt, and_parts}
use Rattle.std.proofs.lemmas.Bool.Decides.{nat_tests}
use Rattle.std.proofs.lemmas.List.{get_or_past}
use Rattle.std.specs.List.{prefix_len}
use Rattle.yaml_text.specs.Classes.{is_crlf, is_break, is_alpha, is_blank, is_digit}
use Rattle.yaml_lexeme.specs.Classes.{is_white, is_in_line}
use Rattle.yaml_lexeme.specs.Gap.{is_gap_blank}
use Rattle.yaml_text.specs.declared.types.yaml_mark_t.{yaml_mark_t}
use Rattle.yaml_lexeme.proofs.MarkOrder.ReadingAhead.{ahead_any}
use Rattle.yaml_lexeme.proofs.Places.PlaceMoves.{skip_none, skip_skip, length_skip, peek_on}
use Rattle.yaml_lexeme.specs.Order.{IsBeyond}
use Rattle.yaml_lexeme.specs.Place.{Place, first, peek, skip, run_len, after_run, break_len}

-- CR and LF of one break are on the two sides of the place after n of the characters
abbrev pub parts : List ℕ → ℕ → Bool
parts cs zero = false
parts cs (suc n) = is_crlf (slice_index cs n) (slice_index cs (suc n))

-- q is ahead of p, and if it is further on it is not between CR and LF
pub record Clear (p q : Place) : Type 0 where
  pub count : ℕ
  pub within : count ≤ length p.rest
  pub is : q ≡ skip count p
  pub whole : parts p.rest count ≡ false

pub clear_here : (p : Place) → Clear p p
clear_here p = record { count = 0; within = omega arith; is = sym (skip_none p); whole = refl }

same_parts : (k j : ℕ) (p : Place) → parts (skip k p).rest (suc j) ≡ parts p.rest (suc (k + j))
same_parts k j p =
    let e : k + suc j ≡ suc (k + j) = omega arith in
    ap (λ (c : ℕ). is_crlf c (slice_index (skip k p).rest (suc j))) (peek_on k j p) ∙ ap (λ (d : ℕ). is_crlf (slice_index p.rest (k + j)) d) (peek_on k (suc j) p ∙ ap (λ (i : ℕ). slice_index p.rest i) e)

-- after k characters, and then j more
pub whole_then : (k j : ℕ) (p q : Place) → q ≡ skip k p → parts p.rest k ≡ false → parts q.rest j ≡ false → parts p.rest (k + j) ≡ false
whole_then k zero p q e h g = let n : k + 0 ≡ k = omega arith in rw n h
whole_then k (suc j) p q e h g =
    let n : k + suc j ≡ suc (k + j) = omega arith in
    rw n (sym (same_parts k j p) ∙ ap (λ (x : Place). parts x.rest (suc j)) (sym e) ∙ g)

further : (k j : ℕ) (p q r : Place) → k ≤ length p.rest → q ≡ skip k p → parts p.rest k ≡ false → j ≤ length q.rest → r ≡ skip j q → parts q.rest j ≡ false → Clear p r
further k j p q r l e h m f g = record {
  count = k + j;
  within = omega (arith, ap (λ (x : Place). length x.rest) e, length_skip k p, m, l);
  is = f ∙ ap (skip j) e ∙ skip_skip k j p;
  whole = whole_then k j p q e h g;
}

pub clear_trans : {p q r : Place} → Clear p q → Clear q r → Clear p r
clear_trans {p} {q} {r} a b = further a.count b.count p q r a.within a.is a.whole b.within b.is b.whole

pub clear_ahead : (p q : Place) → Clear p q → IsBeyond 0 p q
clear_ahead p q a = record { count = a.count; least = omega arith; within = a.within; is = a.is }

-- what is left there is no longer
pub clear_length : {p q : Place} → Clear p q → length q.rest ≤ length p.rest
clear_length {p} {q} a = omega (arith, length_skip a.count p, ap (λ (x : Place). length x.rest) a.is)

-- a character or more ahead
pub clear_nearer : (p q : Place) → Clear p q → length q.rest < length p.rest → IsBeyond 1 p q
clear_nearer p q a h = record { count = a.count; least = omega (arith, length_skip a.count p, ap (λ (x : Place). length x.rest) a.is); within = a.within; is = a.is }

pub clear_next : (p q : Place) → 0 < length p.rest → Clear (skip 1 p) q → IsBeyond 1 p q
clear_next p q h a = record { count = 1 + a.count; least = omega arith; within = omega (arith, a.within, length_skip 1 p); is = a.is ∙ skip_skip 1 a.count p }

-- The mark is that of a place on the way from p to q, and both ways are clear.
pub record Marked (p : Place) (m : yaml_mark_t) (q : Place) : Type 0 where
  pub at : Place
  pub is : m ≡ at.mark
  pub taken : Clear p at
  pub read : Clear at q

pub marked_here : {p q r : Place} → Clear p q → Clear q r → Marked p q.mark r
marked_here {p} {q} {r} a b = record { at = q; is = refl; taken = a; read = b }

pub marked_end : {p q : Place} {m : yaml_mark_t} → Marked p m q → Clear p q
marked_end {p} {q} {m} h = clear_trans h.taken h.read

not_crlf : (c d : ℕ) → d ≡ 0 → is_crlf c d ≡ false
not_crlf c d e = grind (arith, nat_tests)

-- the end is not between CR and LF
pub end_whole : (n : ℕ) (cs : List ℕ) → length cs ≤ n → parts cs n ≡ false
end_whole zero cs h = refl
end_whole (suc n) cs h = not_crlf (slice_index cs n) (slice_index cs (suc n)) (get_or_past cs (suc n) 0 h)

pub clear_skip : (k : ℕ) (p : Place) → parts p.rest k ≡ false → Clear p (skip k p)
clear_skip k p h =
    let a = ahead_any k p in
    elim (cases_lt k (length p.rest)) [
      | inl within ↦ record { count = k; within = omega arith; is = refl; whole = h }
      | inr past ↦ record { count = a.count; within = a.within; is = a.is; whole = end_whole a.count p.rest (omega (arith, ap (λ (x : Place). length x.rest) a.is, length_skip k p, length_skip a.count p)) }
    ]

pub no_return : (c d : ℕ) → (c == 0x0D) ≡ false → is_crlf c d ≡ false
no_return c d h = grind (arith, nat_tests)

-- after a character that is not CR
pub whole_after : (k : ℕ) (p : Place) → (peek p k == 0x0D) ≡ false → parts p.rest (suc k) ≡ false
whole_after k p h = no_return (peek p k) (peek p (suc k)) h

pub clear_after : (k : ℕ) (p : Place) → (peek p k == 0x0D) ≡ false → Clear p (skip (suc k) p)
clear_after k p h = clear_skip (suc k) p (whole_after k p h)

pub clear_one : (p : Place) → (first p == 0x0D) ≡ false → Clear p (skip 1 p)
clear_one p h = clear_after 0 p h

-- a run with this test does not end between CR and LF
abbrev pub IsSure : (ℕ → Bool) → Type 0
IsSure test = (c d : ℕ) → test c ≡ true → test d ≡ false → is_crlf c d ≡ false

pub one_more : (c : ℕ) (cs : List ℕ) (n : ℕ) → parts cs n ≡ false → (n ≡ 0 → is_crlf c (slice_index cs 0) ≡ false) → parts (c ∷ cs) (suc n) ≡ false
one_more c cs zero h g = g refl
one_more c cs (suc n) h g = h

stops : (test : ℕ → Bool) → IsSure test → (c : ℕ) (cs : List ℕ) → test c ≡ true → prefix_len test cs ≡ 0 → is_crlf c (slice_index cs 0) ≡ false
stops test sure c [] h e = not_crlf c 0 refl
stops test sure c (d ∷ ds) h e =
    elim (cases_Bool (test d)) [
      | inl t ↦ let m : prefix_len test (d ∷ ds) ≡ 1 + prefix_len test ds = rw t refl in absurd (omega (arith, m, e))
      | inr f ↦ sure c d h f
    ]

pub run_whole : (test : ℕ → Bool) → IsSure test → (cs : List ℕ) → parts cs (prefix_len test cs) ≡ false
run_whole test sure [] = refl
run_whole test sure (c ∷ cs) =
    elim (cases_Bool (test c)) [
      | inl t ↦
          let m : prefix_len test (c ∷ cs) ≡ suc (prefix_len test cs) = rw t (omega arith) in
          rw m (one_more c cs (prefix_len test cs) (run_whole test sure cs) (λ e. stops test sure c cs t e))
      | inr f ↦ let m : prefix_len test (c ∷ cs) ≡ 0 = rw f refl in rw m refl
    ]

pub clear_run : (test : ℕ → Bool) (p : Place) → IsSure test → Clear p (after_run test p)
clear_run test p sure = clear_skip (run_len test p) p (run_whole test sure p.rest)

pub other : (test : ℕ → Bool) → test 0x0D ≡ false → (c : ℕ) → test c ≡ true → (c == 0x0D) ≡ false
other test none c h =
    elim (cases_Bool (c == 0x0D)) [
      | inl e ↦ let same : c ≡ 0x0D = grind (arith, nat_tests) in absurd (cc (none, h, ap test same))
      | inr f ↦ f
    ]

-- within a run that takes no CR
pub some_whole : (test : ℕ → Bool) → test 0x0D ≡ false → (k : ℕ) (cs : List ℕ) → k ≤ prefix_len test cs → parts cs k ≡ false
some_whole test none zero cs h = refl
some_whole test none (suc k) [] h = absurd (omega arith)
some_whole test none (suc k) (c ∷ cs) h =
    elim (cases_Bool (test c)) [
      | inl t ↦
          let m : prefix_len test (c ∷ cs) ≡ 1 + prefix_len test cs = rw t refl in
          one_more c cs k (some_whole test none k cs (omega (arith, m, h))) (λ e. no_return c (slice_index cs 0) (other test none c t))
      | inr f ↦ let m : prefix_len test (c ∷ cs) ≡ 0 = rw f refl in absurd (omega (arith, m, h))
    ]

line_feed_is : (c : ℕ) → (c == 0x0A) ≡ true → (c == 0x0D) ≡ false
line_feed_is c h = grind (arith, nat_tests)

one_whole : (b : Bool) (p : Place) → is_crlf (first p) (peek p 1) ≡ false → parts p.rest (if b then 1 else 0) ≡ false
one_whole true p h = h
one_whole false p h = refl

-- after a break
pub break_whole : (p : Place) → parts p.rest (break_len p) ≡ false
break_whole p =
    elim (cases_Bool (first p == 0x0D && peek p 1 == 0x0A)) [
      | inl t ↦ let m : break_len p ≡ 2 = rw t refl in rw m (whole_after 1 p (line_feed_is (peek p 1) (and_parts (first p == 0x0D) (peek p 1 == 0x0A) t).1))
      | inr f ↦ rw f (one_whole (is_break (first p)) p f)
    ]

pub clear_break : (p : Place) → Clear p (skip (break_len p) p)
clear_break p = clear_skip (break_len p) p (break_whole p)

-- runs
pub sure_white : IsSure is_white
sure_white c d h g = grind (arith, nat_tests)

pub sure_in_line : IsSure is_in_line
sure_in_line c d h g = no_return c d (other is_in_line refl c h)

pub sure_blank : IsSure is_blank
sure_blank c d h g = no_return c d (other is_blank refl c h)

pub sure_alpha : IsSure is_alpha
sure_alpha c d h g = no_return c d (other is_alpha refl c h)

pub sure_digit : IsSure is_digit
sure_digit c d h g = no_return c d (other is_digit refl c h)

pub sure_gap : (tabs : Bool) → IsSure (is_gap_blank tabs)
sure_gap tabs c d h g = no_return c d (other (is_gap_blank tabs) refl c h)

-- a character that is another one
pub is_not : (c k : ℕ) → (k == 0x0D) ≡ false → (c == k) ≡ true → (c == 0x0D) ≡ false
is_not c k n h = grind (arith, nat_tests)

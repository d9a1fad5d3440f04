-- Separators are read and folded a character or a break at a time.
use Rattle.std.proofs.Common.{ne_eqb, length-append, get_or-drop, ◌≡◌, ℕ, zero, suc, ◌+◌, ◌<◌, ◌≤◌, Bool, true, false}
use Rattle.std.proofs.Common.{cond, not, ◌==◌, ◌&&◌, inl, inr, List, [], ◌∷◌, ◌++◌, length, take, slice_index, refl}
use Rattle.std.proofs.Common.{sym, ap, ◌∙◌, arith, append_assoc, if◌then◌else◌}
use Rattle.std.proofs.lemmas.Bool.{cases_Bool, true≢false}
use Rattle.std.proofs.lemmas.Bool.Decides.{nat_tests}
use Rattle.std.proofs.lemmas.List.{append-nil, nil_from_length}
use Rattle.std.proofs.lemmas.Str.{encode_ascii}
use Rattle.std.specs.List.{prefix_len}
use Rattle.std.specs.Char.{encode_utf8}
use Rattle.yaml_text.specs.declared.types.yaml_mark_t.{yaml_mark_t}
use Rattle.yaml_lexeme.proofs.Places.PlaceMoves.{skip_one, skip_more, after_run_more, after_none, length_skip, length_one, break_within}
use Rattle.yaml_lexeme.specs.Classes.{is_white, line_feed}
use Rattle.yaml_lexeme.specs.Fold.{written, breaks, fold, or_space}
use Rattle.yaml_lexeme.specs.Place.{Place, first, peek, skip, run, run_len, after_run, break_len}
use Rattle.yaml_text.specs.Chars.{utf8}
use Rattle.yaml_text.specs.Classes.{is_blank, is_break}

-- the breaks of a separator, joined
abbrev pub join_breaks : ℕ → List ℕ → List ℕ
join_breaks b bs = if b == line_feed then or_space bs else b ∷ bs

passes : (test : ℕ → Bool) (m : yaml_mark_t) (cs : List ℕ) → test (slice_index cs 0) ≡ true → test 0 ≡ false
    → let p : Place = record { mark = m; rest = cs } in run test p ≡ first p ∷ run test (skip 1 p)
unfolding skip
passes test m [] h none = absurd (true≢false (sym h ∙ none))
passes test m (c ∷ cs) h none = let k : 1 + prefix_len test cs ≡ suc (prefix_len test cs) = omega arith in rw (h, k) refl

-- a run's first character, and the others
pub run_more : (test : ℕ → Bool) (p : Place) → test (first p) ≡ true → test 0 ≡ false → run test p ≡ first p ∷ run test (skip 1 p)
run_more test p h none = passes test p.mark p.rest h none

stops : (test : ℕ → Bool) (cs : List ℕ) → test (slice_index cs 0) ≡ false → take (prefix_len test cs) cs ≡ []
stops test [] h = refl
stops test (c ∷ cs) h = rw h refl

pub run_none : (test : ℕ → Bool) (p : Place) → test (first p) ≡ false → run test p ≡ []
run_none test p h = stops test p.rest h

-- the breaks of the run at a place
abbrev pub breaks_at : Place → List ℕ
breaks_at p = breaks (run is_white p)

-- the breaks of a run that goes on with a blank
blank_first : (p : Place) → is_blank (first p) ≡ true → (breaks_at p ≡ breaks_at (skip 1 p)) × (after_run is_white p ≡ after_run is_white (skip 1 p))
blank_first p h =
    let space : is_white (first p) ≡ true = grind (arith, nat_tests) in
    let other : is_break (first p) ≡ false = grind (arith, nat_tests) in
    (ap breaks (run_more is_white p space refl) ∙ rw other refl, (after_run_more is_white p space refl).1)

abbrev SameBreaks : Place → Place → Type 0
SameBreaks p q = (breaks_at p ≡ breaks_at q) × (after_run is_white p ≡ after_run is_white q)

run_over_blanks : (n : ℕ) (p : Place) → length p.rest ≤ n → run is_white p ≡ run is_blank p ++ run is_white (after_run is_blank p)
run_over_blanks zero p h =
    elim (cases_Bool (is_blank (first p))) [
      | inl blank ↦ absurd (omega (arith, (after_run_more is_blank p blank refl).0))
      | inr other ↦ rw (after_none is_blank p other, run_none is_blank p other) refl
    ]
run_over_blanks (suc n) p h =
    elim (cases_Bool (is_blank (first p))) [
      | inl blank ↦
          let t = after_run_more is_blank p blank refl in
          let space : is_white (first p) ≡ true = grind (arith, nat_tests) in
          let more = run_over_blanks n (skip 1 p) (omega (arith, t.0, length_one p)) in
          rw (t.1, run_more is_white p space refl, run_more is_blank p blank refl) (ap (λ (cs : List ℕ). first p ∷ cs) more)
      | inr other ↦ rw (after_none is_blank p other, run_none is_blank p other) refl
    ]

over_blanks : (n : ℕ) (p : Place) → length p.rest ≤ n → SameBreaks p (after_run is_blank p)
over_blanks zero p h =
    elim (cases_Bool (is_blank (first p))) [
      | inl blank ↦ absurd (omega (arith, (after_run_more is_blank p blank refl).0))
      | inr other ↦ rw (after_none is_blank p other) (refl, refl)
    ]
over_blanks (suc n) p h =
    elim (cases_Bool (is_blank (first p))) [
      | inl blank ↦
          let t = after_run_more is_blank p blank refl in
          let one = blank_first p blank in
          let more = over_blanks n (skip 1 p) (omega (arith, t.0, length_one p)) in
          rw t.1 (one.0 ∙ more.0, one.1 ∙ more.1)
      | inr other ↦ rw (after_none is_blank p other) (refl, refl)
    ]

-- the breaks of a run are those after its first blanks
pub after_run_blanks : (p : Place) → SameBreaks p (after_run is_blank p)
after_run_blanks p = over_blanks (length p.rest) p (omega arith)

run_head : (test : ℕ → Bool) (cs : List ℕ) → slice_index (take (prefix_len test cs) cs) 0 ≡ cond (test (slice_index cs 0)) (slice_index cs 0) 0
run_head test [] = elim (cases_Bool (test 0)) [ inl y ↦ rw y refl | inr n ↦ rw n refl ]
run_head test (c ∷ cs) = elim (cases_Bool (test c)) [ inl y ↦ let k : 1 + prefix_len test cs ≡ suc (prefix_len test cs) = omega arith in rw (y, k) refl | inr n ↦ rw n refl ]

peek_next : (p : Place) → 0 < length p.rest → first (skip 1 p) ≡ peek p 1
peek_next p h = rw (skip_one p h, get_or-drop 1 p.rest 0 0) refl

-- a break at p takes n characters
abbrev BreaksBy : ℕ → Place → Type 0
BreaksBy n p = (breaks_at p ≡ written (first p) ∷ breaks_at (skip n p)) × (after_run is_white p ≡ after_run is_white (skip n p))

two_one : (p : Place) → first p ≡ 13 → peek p 1 ≡ 10 → BreaksBy 2 p
two_one p a b =
    let space : is_white (first p) ≡ true = rw a refl in
    let (there, end) = after_run_more is_white p space refl in
    let next : first (skip 1 p) ≡ 10 = peek_next p there ∙ b in
    let space' : is_white (first (skip 1 p)) ≡ true = rw next refl in
    let end' = (after_run_more is_white (skip 1 p) space' refl).1 in
    let whole : run is_white p ≡ 13 ∷ 10 ∷ run is_white (skip 1 (skip 1 p)) =
    run_more is_white p space refl ∙ rw (run_more is_white (skip 1 p) space' refl, next, a) refl in
    let value : breaks_at p ≡ 10 ∷ breaks_at (skip 1 (skip 1 p)) = ap breaks whole in
    rw (skip_more 1 p, a) (value, end ∙ end')

no_line_feed : (c d h : ℕ) → is_break c ≡ true → (c == 13 && d == 10) ≡ false → h ≡ cond (is_white d) d 0 → (is_break c && not (c == 13 && h == 10)) ≡ true
no_line_feed c d h is other e =
    elim (cases_Bool (is_white d)) [
      | inl space ↦ let same : h ≡ d = rw space at e in rw (same, is, other) refl
      | inr none ↦ let same : h ≡ 0 = rw none at e in rw (same, is) (grind (arith, nat_tests))
    ]

one_one : (p : Place) → is_break (first p) ≡ true → (first p == 13 && peek p 1 == 10) ≡ false → BreaksBy 1 p
one_one p is other =
    let space : is_white (first p) ≡ true = grind (arith, nat_tests) in
    let (there, end) = after_run_more is_white p space refl in
    let head = run_head is_white (skip 1 p).rest in
    let test = no_line_feed (first p) (first (skip 1 p)) (slice_index (run is_white (skip 1 p)) 0) is (rw (peek_next p there) other) head in
    (ap breaks (run_more is_white p space refl) ∙ rw test refl, end)

break_two : (p : Place) → (first p == 13 && peek p 1 == 10) ≡ true → (break_len p ≡ 2) × (first p ≡ 13) × (peek p 1 ≡ 10)
break_two p h = (rw h refl, grind (arith, nat_tests), grind (arith, nat_tests))

break_one : (p : Place) → (first p == 13 && peek p 1 == 10) ≡ false → 0 < break_len p → (break_len p ≡ 1) × (is_break (first p) ≡ true)
break_one p h some =
    elim (cases_Bool (is_break (first p))) [
      | inl is ↦ (rw (h, is) refl, is)
      | inr other ↦ let none : break_len p ≡ 0 = rw (h, other) refl in absurd (omega arith)
    ]

-- the first break of a run, and the others
pub first_break : (p : Place) → 0 < break_len p → BreaksBy (break_len p) p
first_break p h =
    elim (cases_Bool (first p == 13 && peek p 1 == 10)) [
      | inl two ↦ let (n, a, b) = break_two p two in rw n (two_one p a b)
      | inr one ↦ let (n, is) = break_one p one h in rw n (one_one p is one)
    ]

no_space : (p : Place) → break_len p ≡ 0 → is_blank (first p) ≡ false → is_white (first p) ≡ false
no_space p h other = grind (arith, nat_tests)

pub no_break : (p : Place) → break_len p ≡ 0 → is_blank (first p) ≡ false → (breaks_at p ≡ []) × (after_run is_white p ≡ p)
no_break p h other =
    let none : is_white (first p) ≡ false = grind (arith, nat_tests) in
    (ap breaks (run_none is_white p none), after_none is_white p none)

-- The breaks of a run are being copied: what was copied, and what is left.
pub record CopiesBreaks (p q : Place) (out whole : List ℕ) : Type 0 where
  pub value : out ++ utf8 (breaks_at p) ≡ whole
  pub end : after_run is_white p ≡ q

pub breaks_blanks : (p q : Place) (out whole : List ℕ) → CopiesBreaks p q out whole → CopiesBreaks (after_run is_blank p) q out whole
breaks_blanks p q out whole c =
    let same = after_run_blanks p in
    record { value = ap (λ (cs : List ℕ). out ++ utf8 cs) (sym same.0) ∙ c.value; end = sym same.1 ∙ c.end }

pub breaks_more : (p q : Place) (out whole : List ℕ) → 0 < break_len p → CopiesBreaks p q out whole
    → CopiesBreaks (after_run is_blank (skip (break_len p) p)) q (out ++ encode_utf8 (written (first p))) whole
breaks_more p q out whole h c =
    let one = first_break p h in
    let b = encode_utf8 (written (first p)) in
    breaks_blanks (skip (break_len p) p) q (out ++ b) whole (record {
      value = append_assoc out b (utf8 (breaks_at (skip (break_len p) p))) ∙ ap (λ (cs : List ℕ). out ++ utf8 cs) (sym one.0) ∙ c.value;
      end = sym one.1 ∙ c.end;
    })

pub breaks_end : (p q : Place) (out whole : List ℕ) → break_len p ≡ 0 → is_blank (first p) ≡ false → CopiesBreaks p q out whole → (out ≡ whole) × (p ≡ q)
breaks_end p q out whole h other c =
    let none = no_break p h other in
    (sym (append-nil out) ∙ ap (λ (cs : List ℕ). out ++ utf8 cs) (sym none.0) ∙ c.value, sym none.1 ∙ c.end)

pub shorter_blanks : (p : Place) → 0 < break_len p → length (after_run is_blank (skip (break_len p) p)).rest < length p.rest
shorter_blanks p h = let q = skip (break_len p) p in omega (arith, length_skip (run_len is_blank q) q, length_skip (break_len p) p, break_within p h)

first_after : (n : ℕ) (test : ℕ → Bool) (p : Place) → length p.rest ≤ n → test 0 ≡ false → test (first (after_run test p)) ≡ false
first_after zero test p h none =
    elim (cases_Bool (test (first p))) [
      | inl is ↦ absurd (omega (arith, (after_run_more test p is none).0))
      | inr other ↦ rw (after_none test p other) other
    ]
first_after (suc n) test p h none =
    elim (cases_Bool (test (first p))) [
      | inl is ↦ let t = after_run_more test p is none in rw t.1 (first_after n test (skip 1 p) (omega (arith, t.0, length_one p)) none)
      | inr other ↦ rw (after_none test p other) other
    ]

-- what stops a run does not pass
pub stopped : (test : ℕ → Bool) (p : Place) → test 0 ≡ false → test (first (after_run test p)) ≡ false
stopped test p none = first_after (length p.rest) test p (omega arith) none

-- a run with no break is a run of blanks
pub fold_blanks : (p : Place) → break_len (after_run is_blank p) ≡ 0 → (fold (run is_white p) ≡ run is_blank p) × (after_run is_white p ≡ after_run is_blank p)
unfolding fold
fold_blanks p h =
    let q = after_run is_blank p in
    let other = stopped is_blank p refl in
    let same = after_run_blanks p in
    let none = no_break q h other in
    let space : is_white (first q) ≡ false = no_space q h other in
    let whole : run is_white p ≡ run is_blank p = run_over_blanks (length p.rest) p (omega arith) ∙ ap (λ (cs : List ℕ). run is_blank p ++ cs) (run_none is_white q space) ∙ append-nil (run is_blank p) in
    (rw (same.0 ∙ none.0) whole, same.1 ∙ none.1)

-- what a run with a break gives, from its first break and the others
pub fold_breaks : (p : Place) → 0 < break_len (after_run is_blank p)
    → let q = after_run is_blank p in
    let r = skip (break_len q) q in
    (fold (run is_white p) ≡ join_breaks (written (first q)) (breaks_at r)) × (after_run is_white p ≡ after_run is_white r)
unfolding fold
fold_breaks p h =
    let q = after_run is_blank p in
    let same = after_run_blanks p in
    let one = first_break q h in
    (rw (same.0 ∙ one.0) refl, same.1 ∙ one.1)

pub join_kept : (b : ℕ) (bs : List ℕ) → (b == 10) ≡ false → join_breaks b bs ≡ b ∷ bs
join_kept b [] h = rw h refl
join_kept b (c ∷ cs) h = rw h refl

pub encode_some : (c : ℕ) → 0 < length (encode_utf8 c)
unfolding encode_utf8
encode_some c = grind (arith, nat_tests)

pub join_only : (bs : List ℕ) → length (utf8 bs) ≡ 0 → utf8 (join_breaks 10 bs) ≡ 0x20 ∷ []
unfolding encode_utf8
join_only [] h = refl
join_only (c ∷ cs) h = absurd (omega (arith, encode_some c, length-append (encode_utf8 c) (utf8 cs)))

pub join_more : (bs : List ℕ) → 0 < length (utf8 bs) → join_breaks 10 bs ≡ bs
join_more [] h = absurd (omega arith)
join_more (c ∷ cs) h = refl

-- what a separator that was read from p on leaves
abbrev pub Separates : Place → List ℕ → List ℕ → Place → Type 0
Separates p out new end = (new ≡ out ++ utf8 (fold (run is_white p))) × (end ≡ after_run is_white p)

pub sep_blanks : (p : Place) (out new : List ℕ) (end : Place) → break_len (after_run is_blank p) ≡ 0 → new ≡ out ++ utf8 (run is_blank p) → end ≡ after_run is_blank p → Separates p out new end
sep_blanks p out new end h e f = let t = fold_blanks p h in (e ∙ ap (λ (cs : List ℕ). out ++ utf8 cs) (sym t.0), f ∙ sym t.1)

abbrev pub after_break : Place → Place
after_break p = let q = after_run is_blank p in skip (break_len q) q

abbrev pub first_of : Place → ℕ
first_of p = written (first (after_run is_blank p))

pub sep_kept : (p : Place) (out mid new : List ℕ) (end : Place) → 0 < break_len (after_run is_blank p) → (first_of p ≡ 10 → ⊥) → mid ≡ out ++ encode_utf8 (first_of p)
    → new ≡ mid ++ utf8 (breaks_at (after_break p)) → end ≡ after_run is_white (after_break p) → Separates p out new end
sep_kept p out mid new end h other m e f =
    let t = fold_breaks p h in
    let bs = breaks_at (after_break p) in
    let value = t.0 ∙ join_kept (first_of p) bs (ne_eqb (first_of p) 10 other) in
    (e ∙ ap (λ (xs : List ℕ). xs ++ utf8 bs) m ∙ append_assoc out (encode_utf8 (first_of p)) (utf8 bs) ∙ ap (λ (cs : List ℕ). out ++ utf8 cs) (sym value), f ∙ sym t.1)

pub sep_space : (p : Place) (out mid new : List ℕ) (end : Place) → 0 < break_len (after_run is_blank p) → first_of p ≡ 10 → mid ≡ out ++ utf8 (breaks_at (after_break p))
    → length mid ≡ length out → new ≡ mid ++ encode_utf8 0x20 → end ≡ after_run is_white (after_break p) → Separates p out new end
sep_space p out mid new end h feed m none e f =
    let t = fold_breaks p h in
    let bs = breaks_at (after_break p) in
    let short : length (utf8 bs) ≡ 0 = omega (arith, ap (λ (xs : List ℕ). length xs) m, length-append out (utf8 bs)) in
    let empty : utf8 bs ≡ [] = nil_from_length (utf8 bs) short in
    let value : utf8 (fold (run is_white p)) ≡ 0x20 ∷ [] = ap utf8 (t.0 ∙ ap (λ (b : ℕ). join_breaks b bs) feed) ∙ join_only bs short in
    let same : mid ≡ out = m ∙ ap (λ (xs : List ℕ). out ++ xs) empty ∙ append-nil out in
    (e ∙ ap (λ (xs : List ℕ). xs ++ encode_utf8 0x20) same ∙ ap (λ (xs : List ℕ). out ++ xs) (encode_ascii 0x20 (omega arith) ∙ sym value), f ∙ sym t.1)

pub sep_more : (p : Place) (out new : List ℕ) (end : Place) → 0 < break_len (after_run is_blank p) → first_of p ≡ 10 → new ≡ out ++ utf8 (breaks_at (after_break p))
    → (length new ≡ length out → ⊥) → end ≡ after_run is_white (after_break p) → Separates p out new end
sep_more p out new end h feed m some f =
    let t = fold_breaks p h in
    let bs = breaks_at (after_break p) in
    let long : 0 < length (utf8 bs) = omega (arith, ap (λ (xs : List ℕ). length xs) m, length-append out (utf8 bs)) in
    let value = t.0 ∙ ap (λ (b : ℕ). join_breaks b bs) feed ∙ join_more bs long in
    (m ∙ ap (λ (cs : List ℕ). out ++ utf8 cs) (sym value), f ∙ sym t.1)

-- A gap is the longest text of gap lines joined by breaks.
use Rattle.std.proofs.Common.{◌≡◌, ℕ, zero, suc, ◌<◌, ◌≤◌, ◌⊎◌, Bool, true, false, not, ◌==◌, ◌&&◌, ◌||◌, nat_lt, inl, inr, length, refl, sym, ap, ◌∙◌, subst, arith}
use Rattle.std.proofs.lemmas.Bool.{cases_Bool, cases_lt, and_parts, eqb-true, true≢false}
use Rattle.std.proofs.lemmas.Bool.Decides.{nat_tests}
use Rattle.std.proofs.lemmas.List.Sums.{prefix_len-le-length, prefix_len_passes, prefix_len_stops}
use Rattle.yaml_lexeme.proofs.Readers.GapLines.{within_line, lines_none}
use Rattle.yaml_lexeme.proofs.Places.PlaceMoves.{skip_none, length_skip, within_if, break_within, first_on}
use Rattle.yaml_lexeme.proofs.Readers.FoldSeparators.{stopped}
use Rattle.yaml_lexeme.specs.Classes.{is_in_line}
use Rattle.yaml_lexeme.specs.Gap.{byte_order_mark, is_gap_blank, after_mark, after_comment, after_gap_line, after_gap_lines, gap}
use Rattle.yaml_lexeme.specs.GapText.{Passes, MayBeMark, MayBeComment, GapLine, GapLines, LongestGap, EndsLongestGap, GapIsLongest, RunIsLongest}
use Rattle.yaml_text.specs.declared.types.yaml_mark_t.{yaml_mark_t}
use Rattle.yaml_lexeme.specs.Place.{Place, first, skip, run_len, after_run, break_len}

-- runs
pass_run : (test : ℕ → Bool) (p : Place) → Passes test p (after_run test p)
pass_run test p = record { count = run_len test p; within = prefix_len-le-length test p.rest; is = refl; all = λ i l. prefix_len_passes test p.rest i 0 l }

run_stops : (test : ℕ → Bool) (p : Place) → 0 < length (after_run test p).rest → test (first (after_run test p)) ≡ false
run_stops test p h =
    let k = run_len test p in
    rw (first_on k p) (prefix_len_stops test p.rest 0 (omega (arith, length_skip k p)))

pub run_longest : RunIsLongest
run_longest test p = (pass_run test p, run_stops test p)

-- characters that pass are the run, or one that passes follows them
passes_cases : (test : ℕ → Bool) (p q : Place) → Passes test p q → (q ≡ after_run test p) ⊎ ((test (first q) ≡ true) × (length (after_run test p).rest ≤ length q.rest))
passes_cases test p q a =
    let k = run_len test p in
    let n = a.count in
    let l = ap (λ (x : Place). length x.rest) a.is in
    elim (cases_lt n k) [
      | inl less ↦ inr (rw a.is (rw (first_on n p) (prefix_len_passes test p.rest n 0 less)), omega (arith, length_skip n p, length_skip k p))
      | inr more ↦ elim (cases_lt k n) [
        | inl past ↦ absurd (true≢false (sym (a.all k past) ∙ prefix_len_stops test p.rest 0 (omega (arith, a.within))))
        | inr not_past ↦ let same : n ≡ k = omega arith in inl (a.is ∙ ap (λ (i : ℕ). skip i p) same)
      ]
    ]

-- a `#` is no break
hash_no_break : (p : Place) → first p ≡ 0x23 → break_len p ≡ 0
hash_no_break p e = rw e refl

mark_no_break : (p : Place) → first p ≡ byte_order_mark → break_len p ≡ 0
mark_no_break p e = rw e refl

blank_no_break : (tabs : Bool) (p : Place) → is_gap_blank tabs (first p) ≡ true → break_len p ≡ 0
blank_no_break tabs p h = elim (blank_is tabs (first p) h) [ inl e ↦ rw e refl | inr e ↦ rw e refl ]
  where
    blank_is : (tabs : Bool) (c : ℕ) → is_gap_blank tabs c ≡ true → (c ≡ 0x20) ⊎ (c ≡ 0x09)
    blank_is tabs c h = elim (cases_Bool (c == 0x20)) [ inl e ↦ inl (grind (arith, nat_tests)) | inr n ↦ inr (tab (c == 0x20) (c == 0x09) tabs c n h (λ e. grind (arith, nat_tests))) ]
      where
        tab : (a b t : Bool) (c : ℕ) → a ≡ false → (a || (b && t)) ≡ true → (b ≡ true → c ≡ 0x09) → c ≡ 0x09
        tab true b t c n h k = absurd cc
        tab false true t c n h k = k refl
        tab false false t c n h k = absurd cc

abbrev Short : Place → Place → Type 0
Short q x = (break_len x ≡ 0) × (length q.rest ≤ length x.rest)

comment_rest : (p : Place) → length (after_comment p).rest ≤ length p.rest
comment_rest p = within_if (first p == 0x23) p (after_run is_in_line p) p (omega (arith, length_skip (run_len is_in_line p) p)) (omega arith)

is_hash : (c : ℕ) → (c == 0x23) ≡ true → c ≡ 0x23
is_hash c h = grind (arith, nat_tests)

-- a comment, or none, is the one that is taken, or a `#` follows it
comment_cases : (p q : Place) → MayBeComment p q → (q ≡ after_comment p) ⊎ Short (after_comment p) q
comment_cases p q (inl e) = elim (cases_Bool (first p == 0x23)) [
  | inl hash ↦ inr (rw e (hash_no_break p (is_hash (first p) hash)), rw e (comment_rest p))
  | inr none ↦ inl (rw none e)
]
comment_cases p q (inr c) =
    let is : after_comment p ≡ after_run is_in_line p = rw c.0 refl in
    elim (passes_cases is_in_line p q c.1) [
      | inl e ↦ inl (e ∙ sym is)
      | inr m ↦ absurd (true≢false (sym m.0 ∙ c.2))
    ]

hash_no_blank : (tabs : Bool) (c : ℕ) → c ≡ 0x23 → is_gap_blank tabs c ≡ true → ⊥
hash_no_blank tabs c e h = absurd (none tabs (subst (λ (d : ℕ). is_gap_blank tabs d ≡ true) e h))
  where
    none : (tabs : Bool) → is_gap_blank tabs 0x23 ≡ true → ⊥
    none true h = cc
    none false h = cc

-- if a blank follows blanks, a gap line that ends there is short
blank_ends : (tabs : Bool) (r to x : Place) → is_gap_blank tabs (first to) ≡ true → length (after_run (is_gap_blank tabs) r).rest ≤ length to.rest → MayBeComment to x → Short (after_comment (after_run (is_gap_blank tabs) r)) x
blank_ends tabs r to x b l (inl e) =
    let c = comment_rest (after_run (is_gap_blank tabs) r) in
    let s : length (after_comment (after_run (is_gap_blank tabs) r)).rest ≤ length to.rest = omega arith in
    (rw e (blank_no_break tabs to b), rw e s)
blank_ends tabs r to x b l (inr c) = absurd (hash_no_blank tabs (first to) c.0 b)

-- the blanks and comment after a byte order mark, or after none
line_from : (tabs : Bool) (r to x : Place) → Passes (is_gap_blank tabs) r to → MayBeComment to x → (x ≡ after_comment (after_run (is_gap_blank tabs) r)) ⊎ Short (after_comment (after_run (is_gap_blank tabs) r)) x
line_from tabs r to x a c =
    elim (passes_cases (is_gap_blank tabs) r to a) [
      | inl e ↦ subst (λ (y : Place). (x ≡ after_comment y) ⊎ Short (after_comment y) x) e (comment_cases to x c)
      | inr m ↦ inr (blank_ends tabs r to x m.0 m.1 c)
    ]

mark_no_blank : (tabs : Bool) (c : ℕ) → c ≡ byte_order_mark → is_gap_blank tabs c ≡ true → ⊥
mark_no_blank tabs c e h = absurd (none tabs (subst (λ (d : ℕ). is_gap_blank tabs d ≡ true) e h))
  where
    none : (tabs : Bool) → is_gap_blank tabs byte_order_mark ≡ true → ⊥
    none true h = cc
    none false h = cc

mark_no_hash : (c : ℕ) → c ≡ byte_order_mark → c ≡ 0x23 → ⊥
mark_no_hash c e h = let d : byte_order_mark ≡ 0x23 = sym e ∙ h in absurd (omega arith)

-- a byte order mark that is not taken ends the line
left_mark : (tabs : Bool) (p to x : Place) → first p ≡ byte_order_mark → Passes (is_gap_blank tabs) p to → MayBeComment to x → x ≡ p
left_mark tabs p to x m a c = elim (cases_lt 0 a.count) [
  | inl some ↦ absurd (mark_no_blank tabs (first p) m (a.all 0 some))
  | inr none ↦
      let zero_is : a.count ≡ 0 = omega arith in
      let here : to ≡ p = a.is ∙ ap (λ (i : ℕ). skip i p) zero_is ∙ skip_none p in
      at to here c
]
  where
    at : (to : Place) → to ≡ p → MayBeComment to x → x ≡ p
    at to e (inl same) = same ∙ e
    at to e (inr d) = absurd (mark_no_hash (first p) m (ap (λ (y : Place). first y) (sym e) ∙ d.0))

-- a gap line is the one that is taken, or is shorter and ends before no break
line_cases : (tabs : Bool) (p x : Place) → GapLine tabs p x → (x ≡ after_gap_line tabs p) ⊎ Short (after_gap_line tabs p) x
unfolding after_gap_line
line_cases tabs p x g = elim (from_is g.mark) [
  | inl e ↦ line_from tabs (after_mark p) g.to x (subst (λ (y : Place). Passes (is_gap_blank tabs) y g.to) e g.blanks) g.comment
  | inr m ↦
      let here : x ≡ p = left_mark tabs p g.to x m.1 (subst (λ (y : Place). Passes (is_gap_blank tabs) y g.to) m.0 g.blanks) g.comment in
      inr (rw here (mark_no_break p m.1), rw here (within_line tabs p))
]
  where
    from_is : MayBeMark p g.from → (g.from ≡ after_mark p) ⊎ ((g.from ≡ p) × (first p ≡ byte_order_mark))
    from_is (inl e) = elim (cases_Bool (p.mark.column == 0 && first p == byte_order_mark)) [
      | inl b ↦ inr (e, eqb-true (first p) byte_order_mark (and_parts (p.mark.column == 0) (first p == byte_order_mark) b).1)
      | inr b ↦ inl (rw b e)
    ]
    from_is (inr m) = let after : after_mark p ≡ skip 1 p = rw (m.0, m.1) refl in inl (m.2 ∙ sym after)

-- and it is one
line_is : (tabs : Bool) (p : Place) → GapLine tabs p (after_gap_line tabs p)
unfolding after_gap_line
line_is tabs p = record {
  from = after_mark p;
  to = after_run (is_gap_blank tabs) (after_mark p);
  mark = mark_is;
  blanks = pass_run (is_gap_blank tabs) (after_mark p);
  comment = comment_is (after_run (is_gap_blank tabs) (after_mark p));
}
  where
    mark_is : MayBeMark p (after_mark p)
    mark_is = elim (cases_Bool (p.mark.column == 0 && first p == byte_order_mark)) [
      | inl b ↦ inr (eqb-true p.mark.column 0 (and_parts (p.mark.column == 0) (first p == byte_order_mark) b).0, eqb-true (first p) byte_order_mark (and_parts (p.mark.column == 0) (first p == byte_order_mark) b).1, rw b refl)
      | inr b ↦ inl (rw b refl)
    ]

    comment_is : (q : Place) → MayBeComment q (after_comment q)
    comment_is q = elim (cases_Bool (first q == 0x23)) [
      | inl b ↦ let is : after_comment q ≡ after_run is_in_line q = rw b refl in
          inr (is_hash (first q) b, subst (λ (y : Place). Passes is_in_line q y) (sym is) (pass_run is_in_line q), subst (λ (y : Place). is_in_line (first y) ≡ false) (sym is) (stopped is_in_line q refl))
      | inr b ↦ inl (rw b refl)
    ]

-- nothing is a gap line too
no_line : (tabs : Bool) (p : Place) → GapLine tabs p p
no_line tabs p = record {
  from = p;
  to = p;
  mark = inl refl;
  blanks = record { count = 0; within = omega arith; is = sym (skip_none p); all = λ i l. absurd (omega arith) };
  comment = inl refl;
}

-- from p up to q is the longest text
record Reaches (flow tabs : Bool) (p q : Place) : Type 0 where
  breaks : ℕ
  text : GapLines breaks flow tabs p q
  broken : nat_lt 0 (break_len (after_gap_line tabs p)) ≡ nat_lt 0 breaks
  longest : (n : ℕ) (x : Place) → GapLines n flow tabs p x → length q.rest ≤ length x.rest

-- if no break follows the line
ends_here : (flow tabs : Bool) (p : Place) → break_len (after_gap_line tabs p) ≡ 0 → Reaches flow tabs p (after_gap_line tabs p)
ends_here flow tabs p h = record { breaks = 0; text = line_is tabs p; broken = rw h refl; longest = none }
  where
    short : (x : Place) → (x ≡ after_gap_line tabs p) ⊎ Short (after_gap_line tabs p) x → length (after_gap_line tabs p).rest ≤ length x.rest
    short x (inl e) = rw e (omega arith)
    short x (inr s) = s.1

    never : (x : Place) → 0 < break_len x → (x ≡ after_gap_line tabs p) ⊎ Short (after_gap_line tabs p) x → ⊥
    never x b (inl e) = let l = ap (λ (y : Place). break_len y) e in absurd (omega arith)
    never x b (inr s) = absurd (omega (arith, s.0))

    none : (n : ℕ) (x : Place) → GapLines n flow tabs p x → length (after_gap_line tabs p).rest ≤ length x.rest
    none zero x g = short x (line_cases tabs p x g)
    none (suc n) x g = absurd (never g.0 g.2 (line_cases tabs p g.0 g.1))

-- if a break follows, and then the longest text
goes_on : (flow tabs : Bool) (p q : Place) → let g = after_gap_line tabs p in 0 < break_len g → Reaches flow flow (skip (break_len g) g) q → Reaches flow tabs p q
goes_on flow tabs p q h r = record { breaks = suc r.breaks; text = (after_gap_line tabs p, line_is tabs p, h, r.text); broken = grind (arith, nat_tests); longest = all }
  where
    next : Place
    next = skip (break_len (after_gap_line tabs p)) (after_gap_line tabs p)

    within : length q.rest ≤ length (after_gap_line tabs p).rest
    within = let l = r.longest 0 next (no_line flow next) in omega (arith, length_skip (break_len (after_gap_line tabs p)) (after_gap_line tabs p))

    short : (x : Place) → (x ≡ after_gap_line tabs p) ⊎ Short (after_gap_line tabs p) x → length q.rest ≤ length x.rest
    short x (inl e) = rw e within
    short x (inr s) = let w = within in omega (arith, s.1)

    value_after : (n : ℕ) (y x : Place) → 0 < break_len y → GapLines n flow flow (skip (break_len y) y) x → (y ≡ after_gap_line tabs p) ⊎ Short (after_gap_line tabs p) y → length q.rest ≤ length x.rest
    value_after n y x b g (inl e) = r.longest n x (subst (λ (z : Place). GapLines n flow flow (skip (break_len z) z) x) e g)
    value_after n y x b g (inr s) = absurd (omega (arith, s.0))

    all : (n : ℕ) (x : Place) → GapLines n flow tabs p x → length q.rest ≤ length x.rest
    all zero x g = short x (line_cases tabs p x g)
    all (suc n) x g = value_after n g.0 x g.2 g.3 (line_cases tabs p g.0 g.1)

one_more : (n : ℕ) (flow : Bool) (p : Place) → 0 < break_len p → after_gap_lines (suc n) flow p ≡ after_gap_lines n flow (after_gap_line flow (skip (break_len p) p))
unfolding after_gap_lines
one_more n flow p h = let e : (break_len p == 0) ≡ false = grind (arith, nat_tests) in rw e refl

last_line : (n : ℕ) (flow tabs : Bool) (p : Place) → break_len (after_gap_line tabs p) ≡ 0 → Reaches flow tabs p (after_gap_lines n flow (after_gap_line tabs p))
last_line n flow tabs p e = subst (λ (y : Place). Reaches flow tabs p y) (sym (lines_none n flow (after_gap_line tabs p) e)) (ends_here flow tabs p e)

reaches : (n : ℕ) (flow tabs : Bool) (p : Place) → length (after_gap_line tabs p).rest ≤ n → Reaches flow tabs p (after_gap_lines n flow (after_gap_line tabs p))
reaches zero flow tabs p l = elim (cases_lt 0 (break_len (after_gap_line tabs p))) [
  | inl some ↦ absurd (omega (arith, break_within (after_gap_line tabs p) some))
  | inr none ↦ last_line zero flow tabs p (omega arith)
]
reaches (suc n) flow tabs p l = elim (cases_lt 0 (break_len (after_gap_line tabs p))) [
  | inl some ↦
      let g = after_gap_line tabs p in
      let next = skip (break_len g) g in
      let shorter : length (after_gap_line flow next).rest ≤ n = omega (arith, within_line flow next, length_skip (break_len g) g, break_within g some) in
      subst (λ (y : Place). Reaches flow tabs p y) (sym (one_more n flow g some)) (goes_on flow tabs p (after_gap_lines n flow (after_gap_line flow next)) some (reaches n flow flow next shorter))
  | inr none ↦ last_line (suc n) flow tabs p (omega arith)
]

pub gap_longest : GapIsLongest
unfolding gap
gap_longest flow allowed p =
    let line = after_gap_line (flow || not allowed) p in
    let r = reaches (length line.rest) flow (flow || not allowed) p (omega arith) in
    record { breaks = r.breaks; text = r.text; broken_is = r.broken; longest = λ n x g. (let l = r.longest n x g in omega arith) }

-- so a mark and a flag that are those of the gap are those of the longest
pub ends_longest : (flow allowed : Bool) (p : Place) (mark : yaml_mark_t) (broken : Bool) → mark ≡ (gap flow allowed p).0.mark → broken ≡ (gap flow allowed p).1 → EndsLongestGap flow allowed p mark broken
ends_longest flow allowed p mark broken mark_is broken_is = record {
  end = (gap flow allowed p).0;
  mark_is = mark_is;
  longest = subst (λ (b : Bool). LongestGap flow (flow || not allowed) p (gap flow allowed p).0 b) (sym broken_is) (gap_longest flow allowed p);
}

-- the same of a place and a flag
pub gap_ends_longest : (flow allowed : Bool) (p q : Place) (mark : yaml_mark_t) (broken : Bool) → mark ≡ q.mark → gap flow allowed p ≡ (q, broken) → EndsLongestGap flow allowed p mark broken
gap_ends_longest flow allowed p q mark broken mark_is e =
    ends_longest flow allowed p mark broken (mark_is ∙ ap (λ (r : Place × Bool). r.0.mark) (sym e)) (ap (λ (r : Place × Bool). r.1) (sym e))

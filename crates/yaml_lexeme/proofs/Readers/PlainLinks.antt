-- Chunks, separators and ends of plain scalars are read a character at a time.
use Rattle.std.proofs.Common.{◌≡◌, ℕ, zero, suc, ◌+◌, ◌<◌, ◌≤◌, Bool, true, false, cond, not, ◌==◌, ◌&&◌, ◌||◌, if◌then◌else◌, inl, inr, List, [], ◌∷◌, ◌++◌, length, take, drop, slice_index, Option, Some, None, Ok, Err, refl, sym, ap, ◌∙◌, subst, arith}
use Rattle.std.proofs.lemmas.Bool.{not-false, cases_Bool}
use Rattle.std.proofs.lemmas.Bool.Decides.{nat_tests}
use Rattle.std.specs.List.{flat_map, list_any, find, prefix_len, range_with_len}
use Rattle.yaml_text.specs.declared.types.yaml_mark_t.{yaml_mark_t}
use Rattle.yaml_lexeme.specs.declared.problem.yaml_refusal_t.{yaml_refusal_t}
use Rattle.yaml_lexeme.specs.declared.problem.yaml_refusal_t.TheVariants as errors
use Rattle.yaml_lexeme.specs.declared.problem.yaml_problem_t.{yaml_problem_t}
use Rattle.yaml_lexeme.specs.Lexeme.{Scalar}
use Rattle.yaml_lexeme.specs.declared.problem.yaml_problem_t.TheVariants.{COLON_IN_FLOW, TAB_IN_PLAIN}
use Rattle.yaml_lexeme.proofs.Parts.HeldReads.{ok_holds, refuse_holds, if_holds, bind_holds, Nears, PartNears, nears_shorter}
use Rattle.yaml_lexeme.proofs.Parts.PartByPart.{Shortens, joined}
use Rattle.yaml_lexeme.proofs.Places.PlaceMoves.{run_nearer, length_skip, length_one, is_there, after_run_more, after_none, blank_white, first_on, rest_skip, skip_none, skip_skip}
use Rattle.yaml_lexeme.proofs.Readers.FoldSeparators.{run_more, run_none, after_run_blanks, stopped as run_stopped}
use Rattle.yaml_lexeme.proofs.Parts.ReadResults.{value_or, end_or}
use Rattle.yaml_lexeme.specs.Classes.{is_white, ends}
use Rattle.yaml_lexeme.specs.Fold.{fold}
use Rattle.yaml_lexeme.specs.inside.Gives.{Refuses, TakesPart, TakesRead}
use Rattle.yaml_lexeme.specs.Place.{Place, first, peek, skip, run, run_len, after_run}
use Rattle.yaml_lexeme.specs.inside.Moves.{skip_from, mark_after}
use Rattle.yaml_lexeme.specs.Plain.{has_bad_tab, bad_tab, is_flow_indicator, is_bad_colon, is_chunk, chunk_len, chunk}
use Rattle.yaml_lexeme.specs.Plain.{separator, is_over, link, plain}
use Rattle.yaml_lexeme.specs.inside.Words.{is_bad_tab, untabbed}
use Rattle.yaml_lexeme.specs.Reading.{Read, found, Part, part, refuse, over, many, with_front, ◌>>=◌}
use Rattle.yaml_text.specs.Chars.{utf8}
use Rattle.yaml_text.specs.Classes.{is_break, is_blank}
use Rattle.std.specs.Prelude.{nat_lt, option_map}
use Rattle.yaml_lexeme.specs.declared.runs.class_t.TheVariants.{SPACE}
use Rattle.yaml_lexeme.specs.inside.Runs.{class_test}

-- the result of a chunk at its end
abbrev stopped_at : Bool → List ℕ → Place → Read (List ℕ)
stopped_at b value p = cond b (refuse COLON_IN_FLOW p) (found value p)

one_front : (b : Bool) (c : ℕ) (value : List ℕ) (p : Place) → stopped_at b (c ∷ value) p ≡ with_front (c ∷ []) (stopped_at b value p)
one_front true c value p = refl
one_front false c value p = refl

chunk_step : (flow : Bool) (m : yaml_mark_t) (cs : List ℕ) → let p : Place = record { mark = m; rest = cs } in is_chunk flow (first p) (peek p 1) ≡ true → chunk flow p ≡ with_front (first p ∷ []) (chunk flow (skip 1 p))
unfolding chunk skip
chunk_step flow m [] h = absurd cc
chunk_step flow m (c ∷ cs) h =
    let k : 1 + chunk_len flow cs ≡ suc (chunk_len flow cs) = omega arith in
    let end : Place = skip_from (chunk_len flow cs) (mark_after m c (slice_index cs 0)) cs in
    rw (h, k) (one_front (is_bad_colon flow (first end) (peek end 1)) c (take (chunk_len flow cs) cs) end)

-- a chunk's first character, and the others
pub chunk_more : (flow : Bool) (p : Place) → is_chunk flow (first p) (peek p 1) ≡ true → chunk flow p ≡ with_front (first p ∷ []) (chunk flow (skip 1 p))
chunk_more flow p h = chunk_step flow p.mark p.rest h

chunk_last : (flow : Bool) (m : yaml_mark_t) (cs : List ℕ) → let p : Place = record { mark = m; rest = cs } in is_chunk flow (first p) (peek p 1) ≡ false → chunk flow p ≡ stopped_at (is_bad_colon flow (first p) (peek p 1)) [] p
unfolding chunk skip
chunk_last flow m [] h = refl
chunk_last flow m (c ∷ cs) h = rw h refl

pub chunk_stop : (flow : Bool) (p : Place) → is_chunk flow (first p) (peek p 1) ≡ false → chunk flow p ≡ stopped_at (is_bad_colon flow (first p) (peek p 1)) [] p
chunk_stop flow p h = chunk_last flow p.mark p.rest h

chunk_char : (flow : Bool) (c next : ℕ) → is_chunk flow c next ≡ true → 0 < c
chunk_char flow c next h = grind (arith, nat_tests)

pub chunk_there : (flow : Bool) (p : Place) → is_chunk flow (first p) (peek p 1) ≡ true → 0 < length p.rest
chunk_there flow p h = is_there p 0 (chunk_char flow (first p) (peek p 1) h)

-- the first tab in indentation, looked for a character at a time
abbrev pub tab_from : ℕ → Bool → yaml_mark_t → List ℕ → Option Place
tab_from least broken m [] = None
tab_from least broken m (c ∷ cs) =
    if not (is_white c) then None
    else if (c == 0x09 && broken) && nat_lt m.column least then Some (record { mark = m; rest = c ∷ cs })
    else tab_from least (broken || is_break c) (mark_after m c (slice_index cs 0)) cs

-- the same from a place on
abbrev pub tab_at : ℕ → Bool → Place → Option Place
tab_at least broken p = tab_from least broken p.mark p.rest

tab_step : (least : ℕ) (broken : Bool) (m : yaml_mark_t) (cs : List ℕ) → let p : Place = record { mark = m; rest = cs } in is_white (first p) ≡ true → is_bad_tab least broken p ≡ false
    → tab_at least broken p ≡ tab_at least (broken || is_break (first p)) (skip 1 p)
unfolding skip
tab_step least broken m [] h t = absurd cc
tab_step least broken m (c ∷ cs) h t = rw (h, t) refl

pub tab_more : (least : ℕ) (broken : Bool) (p : Place) → is_white (first p) ≡ true → is_bad_tab least broken p ≡ false → tab_at least broken p ≡ tab_at least (broken || is_break (first p)) (skip 1 p)
tab_more least broken p h t = tab_step least broken p.mark p.rest h t

tab_found : (least : ℕ) (broken : Bool) (m : yaml_mark_t) (cs : List ℕ) → let p : Place = record { mark = m; rest = cs } in is_white (first p) ≡ true → is_bad_tab least broken p ≡ true → tab_at least broken p ≡ Some p
tab_found least broken m [] h t = absurd cc
tab_found least broken m (c ∷ cs) h t = rw (h, t) refl

pub tab_here : (least : ℕ) (broken : Bool) (p : Place) → is_white (first p) ≡ true → is_bad_tab least broken p ≡ true → tab_at least broken p ≡ Some p
tab_here least broken p h t = tab_found least broken p.mark p.rest h t

pub tab_over : (least : ℕ) (broken : Bool) (m : yaml_mark_t) (cs : List ℕ) → is_white (slice_index cs 0) ≡ false → tab_from least broken m cs ≡ None
tab_over least broken m [] h = refl
tab_over least broken m (c ∷ cs) h = rw h refl

no_white : (cs : List ℕ) → prefix_len is_white cs ≡ 0 → is_white (slice_index cs 0) ≡ false
no_white [] e = refl
no_white (c ∷ cs) e =
    elim (cases_Bool (is_white c)) [
      | inl y ↦ let k : prefix_len is_white (c ∷ cs) ≡ 1 + prefix_len is_white cs = rw y refl in absurd (omega (arith, e, k))
      | inr n ↦ n
    ]

one_white : (cs : List ℕ) (n : ℕ) → prefix_len is_white cs ≡ suc n → (is_white (slice_index cs 0) ≡ true) × (prefix_len is_white (drop 1 cs) ≡ n)
one_white [] n e = absurd (omega (arith, e))
one_white (c ∷ cs) n e =
    elim (cases_Bool (is_white c)) [
      | inl y ↦ let k : prefix_len is_white (c ∷ cs) ≡ 1 + prefix_len is_white cs = rw y refl in (y, omega (arith, e, k))
      | inr o ↦ let k : prefix_len is_white (c ∷ cs) ≡ 0 = rw o refl in absurd (omega (arith, e, k))
    ]

or_assoc : (a b c : Bool) → (a || (b || c)) ≡ ((a || b) || c)
or_assoc true b c = refl
or_assoc false b c = refl

one_or : (b : Bool) → (b || false) ≡ (false || b)
one_or true = refl
one_or false = refl

any_more : (k : ℕ) (cs : List ℕ) → list_any is_break (take (suc k) cs) ≡ (list_any is_break (take k cs) || is_break (slice_index cs k))
any_more zero [] = refl
any_more zero (c ∷ cs) = one_or (is_break c)
any_more (suc k) [] = refl
any_more (suc k) (c ∷ cs) = ap (λ b. is_break c || b) (any_more k cs) ∙ or_assoc (is_break c) (list_any is_break (take k cs)) (is_break (slice_index cs k))

find_from : (least : ℕ) (p : Place) (n k : ℕ) → run_len is_white (skip k p) ≡ n → tab_at least (list_any is_break (take k p.rest)) (skip k p) ≡ option_map (λ i. skip i p) (find (has_bad_tab least p) (range_with_len k n))
find_from least p zero k e = let q = skip k p in tab_over least (list_any is_break (take k p.rest)) q.mark q.rest (no_white q.rest e)
find_from least p (suc n) k e =
    let q = skip k p in
    let b = list_any is_break (take k p.rest) in
    let w = one_white q.rest n e in
    elim (cases_Bool (is_bad_tab least b q)) [
      | inl t ↦ tab_here least b q w.0 t ∙ rw t refl
      | inr f ↦
          let on : suc k ≡ k + 1 = omega arith in
          let there : skip 1 q ≡ skip (k + 1) p = skip_skip k 1 p in
          let broken : list_any is_break (take (k + 1) p.rest) ≡ (b || is_break (first q)) =
          ap (λ (i : ℕ). list_any is_break (take i p.rest)) (sym on) ∙ any_more k p.rest ∙ ap (λ (c : ℕ). b || is_break c) (sym (first_on k p)) in
          let len : run_len is_white (skip (k + 1) p) ≡ n = ap (λ (x : Place). run_len is_white x) (sym there) ∙ ap (prefix_len is_white) (rest_skip 1 q) ∙ w.1 in
          tab_more least b q w.0 f ∙ ap (λ o. tab_at least o (skip 1 q)) (sym broken) ∙ ap (tab_at least (list_any is_break (take (k + 1) p.rest))) there
          ∙ find_from least p n (k + 1) len ∙ rw f refl
    ]

-- it is the first one of the separator
pub tab_is : (least : ℕ) (p : Place) → bad_tab least p ≡ tab_at least false p
tab_is least p = sym (ap (tab_at least false) (sym (skip_none p)) ∙ find_from least p (run_len is_white p) 0 (ap (run_len is_white) (skip_none p)))

-- a separator is being passed
pub record Passes (least : ℕ) (broken : Bool) (p start : Place) : Type 0 where
  pub tab : tab_at least broken p ≡ tab_at least false start
  pub end : after_run is_white p ≡ after_run is_white start

pub passes_more : (least : ℕ) (broken : Bool) (p start : Place) → is_white (first p) ≡ true → is_bad_tab least broken p ≡ false → Passes least broken p start → Passes least (broken || is_break (first p)) (skip 1 p) start
passes_more least broken p start h t s = record { tab = sym (tab_more least broken p h t) ∙ s.tab; end = sym (after_run_more is_white p h refl).1 ∙ s.end }

space_is : (c : ℕ) → class_test SPACE c ≡ true → (is_white c ≡ true) × ((c == 0x09) ≡ false) × (is_break c ≡ false)
space_is c h = (grind (arith, nat_tests), grind (arith, nat_tests), grind (arith, nat_tests))

or_none : (b : Bool) → (b || false) ≡ b
or_none true = refl
or_none false = refl

one_space : (least : ℕ) (broken : Bool) (p start : Place) → class_test SPACE (first p) ≡ true → Passes least broken p start → Passes least broken (skip 1 p) start
one_space least broken p start h s =
    let c = space_is (first p) h in
    let fine : is_bad_tab least broken p ≡ false = ap (λ b. (b && broken) && nat_lt p.mark.column least) c.1 in
    let next = passes_more least broken p start c.0 fine s in
    let same : (broken || is_break (first p)) ≡ broken = ap (λ b. broken || b) c.2 ∙ or_none broken in
    subst (λ b. Passes least b (skip 1 p) start) same next

spaces_from : (least : ℕ) (broken : Bool) (fuel : ℕ) (p start : Place) → length p.rest ≤ fuel → Passes least broken p start → Passes least broken (after_run (class_test SPACE) p) start
spaces_from least broken zero p start l s =
    elim (cases_Bool (class_test SPACE (first p))) [
      | inl t ↦ absurd (omega (arith, l, (after_run_more (class_test SPACE) p t refl).0))
      | inr f ↦ subst (λ (q : Place). Passes least broken q start) (sym (after_none (class_test SPACE) p f)) s
    ]
spaces_from least broken (suc fuel) p start l s =
    elim (cases_Bool (class_test SPACE (first p))) [
      | inl t ↦
          let m = after_run_more (class_test SPACE) p t refl in
          let shorter : length (skip 1 p).rest ≤ fuel = omega (arith, l, length_one p) in
          subst (λ (q : Place). Passes least broken q start) (sym m.1) (spaces_from least broken fuel (skip 1 p) start shorter (one_space least broken p start t s))
      | inr f ↦ subst (λ (q : Place). Passes least broken q start) (sym (after_none (class_test SPACE) p f)) s
    ]

-- spaces after what was passed
pub passes_spaces : (least : ℕ) (broken : Bool) (p start : Place) → Passes least broken p start → Passes least broken (after_run (class_test SPACE) p) start
passes_spaces least broken p start s = spaces_from least broken (length p.rest) p start (omega arith) s

-- a separator, by that search
pub separator_is : (least : ℕ) (p : Place) → separator least p ≡ untabbed (tab_at least false p) (fold (run is_white p)) (after_run is_white p)
unfolding separator
separator_is least p = ap (λ o. untabbed o (fold (run is_white p)) (after_run is_white p)) (tab_is least p)

pub passes_none : (least : ℕ) (broken : Bool) (p start : Place) → is_white (first p) ≡ true → is_bad_tab least broken p ≡ true → Passes least broken p start → separator least start ≡ refuse TAB_IN_PLAIN p
passes_none least broken p start h t s = separator_is least start ∙ ap (λ o. untabbed o (fold (run is_white start)) (after_run is_white start)) (sym s.tab ∙ tab_here least broken p h t)

pub passes_all : (least : ℕ) (broken : Bool) (p start : Place) → is_white (first p) ≡ false → Passes least broken p start → (separator least start ≡ found (fold (run is_white start)) (after_run is_white start)) × (p ≡ after_run is_white start)
passes_all least broken p start h s =
    (separator_is least start ∙ ap (λ o. untabbed o (fold (run is_white start)) (after_run is_white start)) (sym s.tab ∙ tab_over least broken p.mark p.rest h), sym (after_none is_white p h) ∙ s.end)

pub takes_found : (read : Read (List ℕ)) (value : List ℕ) (p q : Place) → (read ≡ found value q) × (p ≡ q) → TakesRead (λ run. []) read [] [] p
takes_found read value p q h = rw (h.0) (refl, h.1)

-- there is no separator here
pub link_none : (flow : Bool) (least : ℕ) (p : Place) → is_white (first p) ≡ false → link flow least p ≡ over
unfolding link
link_none flow least p h = rw h refl

-- the part of a link after its separator
abbrev pub after_gap : Bool → ℕ → List ℕ → Place → Part (List ℕ)
after_gap flow least gap q =
    if is_over flow least q then over
    else chunk flow q >>= λ c.
    if length c.value == 0 then over else part (gap ++ c.value) c.end

link_gap : (flow : Bool) (least : ℕ) (p : Place) → is_white (first p) ≡ true → link flow least p ≡ separator least p >>= λ gap. after_gap flow least gap.value gap.end
unfolding link
link_gap flow least p h = rw h refl

link_from : (flow : Bool) (least : ℕ) (p : Place) (gap : List ℕ) (q : Place) → is_white (first p) ≡ true → separator least p ≡ found gap q → link flow least p ≡ after_gap flow least gap q
link_from flow least p gap q h e = link_gap flow least p h ∙ ap (λ (r : Read (List ℕ)). r >>= λ gap. after_gap flow least gap.value gap.end) e

pub same_none : (read : Part (List ℕ)) (old : List ℕ) (p q : Place) → read ≡ over → q ≡ p → TakesPart utf8 read false old old p q
same_none read old p q h e = rw h (refl, e)

pub ends_here : (flow : Bool) (least : ℕ) (p : Place) (old : List ℕ) → is_white (first p) ≡ false → TakesPart utf8 (link flow least p) false old old p p
ends_here flow least p old h = same_none (link flow least p) old p p (link_none flow least p h) refl

gap_by : (o : Option Place) (value : List ℕ) (end q : Place) → TakesRead (λ run. []) (untabbed o value end) [] [] q → (untabbed o value end ≡ found value q) × (q ≡ end)
gap_by None value end q h = (rw h.1 refl, h.1)
gap_by (Some t) value end q h = absurd h

-- what passing a separator said
pub gap_is : (least : ℕ) (p q : Place) → TakesRead (λ run. []) (separator least p) [] [] q → (separator least p ≡ found (fold (run is_white p)) q) × (q ≡ after_run is_white p)
unfolding separator
gap_is least p q h = gap_by (bad_tab least p) (fold (run is_white p)) (after_run is_white p) q h

pub link_refused : (error : yaml_refusal_t) (flow : Bool) (least : ℕ) (p q : Place) → is_white (first p) ≡ true → Refuses error q (separator least p) → Refuses error q (link flow least p)
link_refused errors.MEMORY flow least p q h e = tt
link_refused (errors.OFFENCE problem) flow least p q h e = link_gap flow least p h ∙ ap (λ (r : Read (List ℕ)). r >>= λ gap. after_gap flow least gap.value gap.end) e

-- what taking a link knows of its separator, which ends at q
pub record Gap (flow : Bool) (least : ℕ) (p q : Place) : Type 0 where
  pub space : is_white (first p) ≡ true
  pub read : separator least p ≡ found (fold (run is_white p)) q

pub at_gap : (flow : Bool) (least : ℕ) (p q : Place) → Gap flow least p q → link flow least p ≡ after_gap flow least (fold (run is_white p)) q
at_gap flow least p q g = link_from flow least p (fold (run is_white p)) q g.space g.read

pub is_over_there : (flow : Bool) (least : ℕ) (p q start : Place) (old : List ℕ) → Gap flow least p q → is_over flow least q ≡ true → start ≡ p → TakesPart utf8 (link flow least p) false old old p start
is_over_there flow least p q start old g o e = same_none (link flow least p) old p start (at_gap flow least p q g ∙ rw o refl) e

not_both : (b : Bool) → (b && not true) ≡ false
not_both true = refl
not_both false = refl

chunk_is : (flow : Bool) (q : Place) → is_bad_colon flow (first q) (peek q 1) ≡ true → is_chunk flow (first q) (peek q 1) ≡ false
chunk_is flow q b = rw b (not_both (not (ends (first q) || (first q == 0x3A && ends (peek q 1))) && not (flow && is_flow_indicator (first q))))

pub colon_there : (flow : Bool) (least : ℕ) (p q : Place) → Gap flow least p q → is_over flow least q ≡ false → is_bad_colon flow (first q) (peek q 1) ≡ true → link flow least p ≡ refuse COLON_IN_FLOW q
colon_there flow least p q g o b =
    let c : chunk flow q ≡ refuse COLON_IN_FLOW q = chunk_stop flow q (chunk_is flow q b) ∙ rw b refl in
    at_gap flow least p q g ∙ rw (o, c) refl

pub nothing_there : (flow : Bool) (least : ℕ) (p q start : Place) (old : List ℕ) → Gap flow least p q → is_over flow least q ≡ false → is_bad_colon flow (first q) (peek q 1) ≡ false → is_chunk flow (first q) (peek q 1) ≡ false → start ≡ p
    → TakesPart utf8 (link flow least p) false old old p start
nothing_there flow least p q start old g o b h e =
    let c : chunk flow q ≡ found [] q = chunk_stop flow q h ∙ rw b refl in
    same_none (link flow least p) old p start (at_gap flow least p q g ∙ rw (o, c) refl) e

blank_no_break : (c : ℕ) → is_blank c ≡ true → is_break c ≡ false
blank_no_break c h = grind (arith, nat_tests)

break_space : (c : ℕ) → is_break c ≡ true → is_white c ≡ true
break_space c h = grind (arith, nat_tests)

neither_space : (c : ℕ) → is_break c ≡ false → is_blank c ≡ false → is_white c ≡ false
neither_space c e h = grind (arith, nat_tests)

-- each link takes a character or more
near_chunk : (flow : Bool) (p q : Place) → length q.rest < length p.rest → Nears p (chunk flow q)
unfolding chunk
near_chunk flow p q h =
    let n = chunk_len flow q.rest in
    let end = skip n q in
    if_holds (is_bad_colon flow (first end) (peek end 1)) (λ e. refuse_holds tt) (λ e. ok_holds (omega (arith, h, length_skip n q)))

near_untabbed : (o : Option Place) (value : List ℕ) (p q : Place) → length q.rest < length p.rest → Nears p (untabbed o value q)
near_untabbed None value p q h = ok_holds h
near_untabbed (Some t) value p q h = refuse_holds tt

near_link : (flow : Bool) (least : ℕ) (p : Place) → PartNears p (link flow least p)
unfolding link
near_link flow least p =
    if_holds (not (is_white (first p))) (λ e. ok_holds tt) (λ e.
    let gap_near : Nears p (separator least p) = rw (separator_is least p) (near_untabbed (tab_at least false p) (fold (run is_white p)) p (after_run is_white p) (run_nearer is_white p (not-false (is_white (first p)) e) refl)) in
    bind_holds gap_near (λ gap n.
    if_holds (is_over flow least gap.end) (λ o. ok_holds tt) (λ o.
    bind_holds (near_chunk flow p gap.end n) (λ c m. if_holds (length c.value == 0) (λ z. ok_holds tt) (λ z. ok_holds m)))))

pub link_shortens : (flow : Bool) (least : ℕ) → Shortens (link flow least)
link_shortens flow least p = nears_shorter p (link flow least p) (near_link flow least p)

-- a scalar, from the bytes and the place where its last chunk ends
abbrev pub scalar_at : List ℕ → Place → Read Scalar
scalar_at bytes q = found (record { value = bytes; end = q.mark; passed_break = list_any is_break (run is_white q) }) (after_run is_white q)

-- what follows the bytes of the first chunk
abbrev pub tail_of : List ℕ → Read (List (List ℕ)) → Read Scalar
tail_of v r = r >>= λ links. scalar_at (utf8 v ++ flat_map utf8 links.value) links.end

-- what follows the first chunk
abbrev pub after_head : Bool → ℕ → Read (List ℕ) → Read Scalar
after_head flow least r = r >>= λ head. tail_of head.value (many (link flow least) head.end)

pub plain_is : (flow : Bool) (least : ℕ) (p : Place) → plain flow least p ≡ after_head flow least (chunk flow p)
unfolding plain
plain_is flow least p = refl

abbrev refusal : Read (List ℕ) → Read Scalar
refusal (Ok r) = scalar_at r.value r.end
refusal (Err e) = Err e

pub tail_all : (m : Read (List (List ℕ))) (front out : List ℕ) (q : Place) → with_front front (joined utf8 m) ≡ found out q → (m >>= λ links. scalar_at (front ++ flat_map utf8 links.value) links.end) ≡ scalar_at out q
tail_all (Ok links) front out q h = ap (λ (r : Read (List ℕ)). scalar_at (value_or [] r) (end_or q r)) h
tail_all (Err e) front out q h = absurd cc

pub tail_none : (m : Read (List (List ℕ))) (front : List ℕ) (problem : yaml_problem_t) (q : Place) → with_front front (joined utf8 m) ≡ refuse problem q → (m >>= λ links. scalar_at (front ++ flat_map utf8 links.value) links.end) ≡ refuse problem q
tail_none (Ok links) front problem q h = absurd cc
tail_none (Err e) front problem q h = ap refusal h

any_after : (n : ℕ) (p : Place) → length p.rest ≤ n → list_any is_break (run is_white p) ≡ list_any is_break (run is_white (after_run is_blank p))
any_after zero p h =
    elim (cases_Bool (is_blank (first p))) [
      | inl blank ↦ absurd (omega (arith, (after_run_more is_blank p blank refl).0))
      | inr other ↦ rw (after_none is_blank p other) refl
    ]
any_after (suc n) p h =
    elim (cases_Bool (is_blank (first p))) [
      | inl blank ↦
          let t = after_run_more is_blank p blank refl in
          let space : is_white (first p) ≡ true = blank_white (first p) blank in
          let other : is_break (first p) ≡ false = blank_no_break (first p) blank in
          rw t.1 (ap (list_any is_break) (run_more is_white p space refl) ∙ rw other (any_after n (skip 1 p) (omega (arith, t.0, length_one p))))
      | inr other ↦ rw (after_none is_blank p other) refl
    ]

break_any : (b : Bool) (q : Place) → is_break (first q) ≡ b → is_blank (first q) ≡ false → list_any is_break (run is_white q) ≡ b
break_any true q e h = ap (list_any is_break) (run_more is_white q (break_space (first q) e) refl) ∙ rw e refl
break_any false q e h = ap (list_any is_break) (run_none is_white q (neither_space (first q) e h))

-- whether a break is in a run
pub passed : (p : Place) → list_any is_break (run is_white p) ≡ is_break (first (after_run is_blank p))
passed p = any_after (length p.rest) p (omega arith) ∙ break_any (is_break (first (after_run is_blank p))) (after_run is_blank p) refl (run_stopped is_blank p refl)

-- the scalar as the code makes it
pub scalar_made : (flow : Bool) (least : ℕ) (p q r : Place) (out : List ℕ) (end : yaml_mark_t) (b : Bool) → plain flow least p ≡ scalar_at out q → end ≡ q.mark → b ≡ is_break (first (after_run is_blank q)) → r ≡ after_run is_white (after_run is_blank q)
    → plain flow least p ≡ found (record { value = out; end = end; passed_break = b }) r
scalar_made flow least p q r out end b h m e f = rw (m, e, f, ← passed q, ← (after_run_blanks q).1) h

pub scalar_ends : (flow : Bool) (least : ℕ) (p q r : Place) (out : List ℕ) (end : yaml_mark_t) (b : Bool) → plain flow least p ≡ scalar_at out q → end ≡ q.mark → b ≡ list_any is_break (run is_white q) → r ≡ after_run is_white q
    → plain flow least p ≡ found (record { value = out; end = end; passed_break = b }) r
scalar_ends flow least p q r out end b m e h f = rw (m, e, h, f) refl

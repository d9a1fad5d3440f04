-- Chunks and separators of plain scalars are good.
use Rattle.std.proofs.Common.{◌≡◌, ℕ, zero, suc, ◌+◌, ◌-◌, ◌<◌, ◌≤◌, Bool, true, false, not, ◌==◌, ◌||◌, if◌then◌else◌, inl, inr, List, [], ◌∷◌, ◌++◌, length, slice_index, Option, Some, None, refl, sym, ap, ◌∙◌, arith}
use Rattle.std.proofs.lemmas.Bool.{cases_Bool, and_parts, eqb-true}
use Rattle.std.proofs.lemmas.Bool.Decides.{nat_tests}
use Rattle.yaml_lexeme.proofs.CountedMarks.WholePlaces.{parts, one_more, no_return, whole_after, is_not}
use Rattle.yaml_lexeme.proofs.Locality.ComposedReaders.{IsLike, found_here, refuse_here, like_if, like_on, like_take, like_same, like_map}
use Rattle.yaml_lexeme.proofs.Places.PlaceMoves.{length_skip, length_one, first_on, after_run_more, after_none, skip_skip}
use Rattle.yaml_lexeme.proofs.Readers.FoldSeparators.{run_more, run_none}
use Rattle.yaml_lexeme.proofs.Readers.PlainLinks.{tab_at, tab_over, tab_here, tab_more}
use Rattle.yaml_lexeme.specs.Classes.{is_white}
use Rattle.yaml_lexeme.specs.Place.{Place, first, peek, skip, run, after_run}
use Rattle.yaml_lexeme.specs.Plain.{is_bad_colon, is_chunk, chunk_len, chunk}
use Rattle.yaml_lexeme.specs.inside.Words.{is_bad_tab, untabbed}
use Rattle.yaml_lexeme.specs.Reading.{Read, found, refuse, with_front}
use Rattle.yaml_lexeme.specs.declared.problem.yaml_problem_t.TheVariants.{COLON_IN_FLOW, TAB_IN_PLAIN}
use Rattle.yaml_text.specs.Classes.{is_break, is_crlf}

len_same : (flow : Bool) (cs ds : List ℕ) (n : ℕ) → chunk_len flow cs + 2 ≤ n → n ≤ length cs → n ≤ length ds → ((i : ℕ) → i < n → slice_index cs i ≡ slice_index ds i) → chunk_len flow ds ≡ chunk_len flow cs
len_same flow [] ds n h l r same = absurd (omega arith)
len_same flow (c ∷ cs) [] n h l r same = absurd (omega arith)
len_same flow (c ∷ cs) (d ∷ ds) n h l r same =
    let one : c ≡ d = same 0 (omega arith) in
    let two : slice_index cs 0 ≡ slice_index ds 0 = same 1 (omega arith) in
    let there : is_chunk flow d (slice_index ds 0) ≡ is_chunk flow c (slice_index cs 0) = rw (one, two) refl in
    elim (cases_Bool (is_chunk flow c (slice_index cs 0))) [
      | inl is ↦
          let long : chunk_len flow (c ∷ cs) ≡ 1 + chunk_len flow cs = rw is refl in
          rw (there, is) (ap (λ (k : ℕ). 1 + k) (len_same flow cs ds (n - 1) (omega (arith, long)) (omega arith) (omega arith) (λ i b. same (suc i) (omega arith))))
      | inr none ↦ rw (there, none) refl
    ]

abbrev chunk_then : Bool → List ℕ → Place → Read (List ℕ)
chunk_then flow cs end = if is_bad_colon flow (first end) (peek end 1) then refuse COLON_IN_FLOW end else found cs end

then_like : (flow : Bool) (cs : List ℕ) → IsLike (chunk_then flow cs)
then_like flow cs n p q a =
    like_if (is_bad_colon flow (first p) (peek p 1)) (is_bad_colon flow (first q) (peek q 1)) (λ h. rw (a.same 0 (omega arith), a.same 1 (omega arith)) refl) refuse_here found_here

chunk_not : (flow : Bool) (c d : ℕ) → is_chunk flow c d ≡ true → (c == 0x0D) ≡ false
chunk_not true c d h = grind (arith, nat_tests)
chunk_not false c d h = grind (arith, nat_tests)

chunk_whole : (flow : Bool) (cs : List ℕ) → parts cs (chunk_len flow cs) ≡ false
chunk_whole flow [] = refl
chunk_whole flow (c ∷ cs) =
    elim (cases_Bool (is_chunk flow c (slice_index cs 0))) [
      | inl t ↦
          let m : chunk_len flow (c ∷ cs) ≡ suc (chunk_len flow cs) = rw t (omega arith) in
          rw m (one_more c cs (chunk_len flow cs) (chunk_whole flow cs) (λ e. no_return c (slice_index cs 0) (chunk_not flow c (slice_index cs 0) t)))
      | inr f ↦ let m : chunk_len flow (c ∷ cs) ≡ 0 = rw f refl in rw m refl
    ]

pub chunk_like : (flow : Bool) → IsLike (chunk flow)
unfolding chunk
chunk_like flow n p q a =
    like_take (chunk_then flow) (then_like flow) (chunk_len flow p.rest) (chunk_len flow q.rest) n p q a (chunk_whole flow p.rest)
    (λ h. len_same flow p.rest q.rest n (omega arith) a.left a.right a.same)

-- A separator, a character at a time, but CR and LF of one break together: how many that are, and which.
abbrev one_on : Place → ℕ
one_on p = if is_crlf (first p) (peek p 1) then 2 else 1

abbrev front_on : Place → List ℕ
front_on p = if is_crlf (first p) (peek p 1) then first p ∷ peek p 1 ∷ [] else first p ∷ []

one_whole : (p : Place) → parts p.rest (one_on p) ≡ false
one_whole p =
    elim (cases_Bool (is_crlf (first p) (peek p 1))) [
      | inl e ↦ rw e (whole_after 1 p (is_not (peek p 1) 0x0A refl (and_parts (first p == 0x0D) (peek p 1 == 0x0A) e).1))
      | inr e ↦ rw (e, e) refl
    ]

pass : ℕ → ℕ → Bool → Place → Read (List ℕ)
pass zero least broken p = found [] p
pass (suc f) least broken p =
    if not (is_white (first p)) then found [] p
    else if is_bad_tab least broken p then refuse TAB_IN_PLAIN p
    else with_front (front_on p) (pass f least (broken || is_break (first p)) (skip (one_on p) p))

pass_like : (f least : ℕ) (broken : Bool) → IsLike (pass f least broken)
unfolding pass
pass_like zero least broken n p q a = found_here
pass_like (suc f) least broken n p q a =
    like_if (not (is_white (first p))) (not (is_white (first q))) (λ h. rw (a.same 0 (omega arith)) refl) found_here
    (like_if (is_bad_tab least broken p) (is_bad_tab least broken q) (λ h. rw (a.mark, a.same 0 (omega arith)) refl) refuse_here
    (like_same (λ h. rw (a.same 0 (omega arith), a.same 1 (omega arith)) refl)
    (like_map (λ (cs : List ℕ). front_on p ++ cs) (like_on (pass f least (broken || is_break (first p))) (pass_like f least (broken || is_break (first p))) n (one_on p) p q a (one_whole p)))))

still_broken : (b : Bool) → ((b || true) || true) ≡ (b || true)
still_broken true = refl
still_broken false = refl

front_tab : (front : List ℕ) (o : Option Place) (v : List ℕ) (e : Place) → with_front front (untabbed o v e) ≡ untabbed o (front ++ v) e
front_tab front None v e = refl
front_tab front (Some t) v e = refl

pass_is : (f least : ℕ) (broken : Bool) (p : Place) → length p.rest < f → pass f least broken p ≡ untabbed (tab_at least broken p) (run is_white p) (after_run is_white p)
unfolding pass
pass_is zero least broken p h = absurd (omega arith)
pass_is (suc f) least broken p h =
    elim (cases_Bool (is_white (first p))) [
      | inl space ↦
          elim (cases_Bool (is_bad_tab least broken p)) [
            | inl tab ↦ rw (space, tab, tab_here least broken p space tab) refl
            | inr fine ↦
                let t = after_run_more is_white p space refl in
                let r = run_more is_white p space refl in
                let b = broken || is_break (first p) in
                elim (cases_Bool (is_crlf (first p) (peek p 1))) [
                  | inr one ↦
                      let cs = first p ∷ [] in
                      let q = skip 1 p in
                      rw (space, fine, one, tab_more least broken p space fine, t.1, r) (ap (with_front cs) (pass_is f least b q (omega (arith, t.0, length_one p))) ∙ front_tab cs (tab_at least b q) (run is_white q) (after_run is_white q))
                  | inl two ↦
                      let c = and_parts (first p == 0x0D) (peek p 1 == 0x0A) two in
                      let q = skip 1 p in
                      let feed : first q ≡ 0x0A = first_on 1 p ∙ eqb-true (peek p 1) 0x0A c.1 in
                      let next : is_white (first q) ≡ true = ap is_white feed in
                      let clean : is_bad_tab least b q ≡ false = rw feed refl in
                      let u = after_run_more is_white q next refl in
                      let still : (b || is_break (first q)) ≡ b = rw (feed, eqb-true (first p) 0x0D c.0) (still_broken broken) in
                      let there : skip 1 q ≡ skip 2 p = skip_skip 1 1 p in
                      let on : tab_at least b q ≡ tab_at least b (skip 2 p) = tab_more least b q next clean ∙ ap (λ (d : Bool). tab_at least d (skip 1 q)) still ∙ ap (tab_at least b) there in
                      let end : after_run is_white q ≡ after_run is_white (skip 2 p) = u.1 ∙ ap (after_run is_white) there in
                      let more : run is_white q ≡ peek p 1 ∷ run is_white (skip 2 p) = run_more is_white q next refl ∙ ap (λ (d : ℕ). d ∷ run is_white (skip 1 q)) (first_on 1 p) ∙ ap (λ (x : Place). peek p 1 ∷ run is_white x) there in
                      let cs = first p ∷ peek p 1 ∷ [] in
                      let x = skip 2 p in
                      rw (space, fine, two, tab_more least broken p space fine, t.1, r, more, on, end)
                      (ap (with_front cs) (pass_is f least b x (omega (arith, t.0, length_skip 2 p))) ∙ front_tab cs (tab_at least b x) (run is_white x) (after_run is_white x))
                ]
          ]
      | inr other ↦ rw (other, tab_over least broken p.mark p.rest other, after_none is_white p other, run_none is_white p other) refl
    ]

-- a separator, and the run that it is
unfoldable pub sep_run : ℕ → Place → Read (List ℕ)
sep_run least p = untabbed (tab_at least false p) (run is_white p) (after_run is_white p)

run_is : (f least : ℕ) (p : Place) → length p.rest < f → sep_run least p ≡ pass f least false p
unfolding sep_run
run_is f least p h = sym (pass_is f least false p h)

pub sep_like : (least : ℕ) → IsLike (sep_run least)
sep_like least n p q a =
    let f = length p.rest + length q.rest + 1 in
    rw (run_is f least p (omega arith), run_is f least q (omega arith)) (pass_like f least false n p q a)

-- Plain scalars are their parts, and chunks and links are as long as possible.
use Rattle.std.proofs.Common.{◌≡◌, ℕ, zero, suc, ◌+◌, ◌<◌, ◌≤◌, ◌⊎◌, Bool, true, false, not, ◌==◌, ◌&&◌, if◌then◌else◌, inl, inr, List, [], ◌∷◌, ◌++◌, length, take, drop, slice_index, Option, Some, None, Ok, Err, refl, sym, ap, ◌∙◌, subst, arith, append_assoc, length-append}
use Rattle.std.proofs.lemmas.Bool.{cases_Bool, eqb-true, not-false}
use Rattle.std.proofs.lemmas.Bool.Decides.{nat_tests}
use Rattle.std.proofs.lemmas.List.{length-take-le}
use Rattle.yaml_lexeme.specs.Lexeme.{Scalar}
use Rattle.yaml_lexeme.specs.declared.problem.yaml_problem_t.{yaml_problem_t}
use Rattle.yaml_lexeme.specs.declared.problem.yaml_problem_t.TheVariants.{COLON_IN_FLOW}
use Rattle.yaml_lexeme.specs.Classes.{is_white}
use Rattle.yaml_lexeme.specs.Fold.{fold}
use Rattle.yaml_lexeme.specs.Parts.{texts, values, plain_scalar, PlainParts, PlainIsParts, ChunkRefused, LinksRefused, PlainIsRefused, LinksAreLongest, ChunkIsLongest, LinkParts, LinkIsLongest, SeparatorEnds, LinkIsOver}
use Rattle.yaml_lexeme.specs.Place.{Place, first, peek, skip, run, after_run}
use Rattle.yaml_lexeme.specs.Plain.{is_bad_colon, is_chunk, chunk_len, chunk, bad_tab, separator, is_over, link, plain}
use Rattle.yaml_lexeme.specs.inside.Words.{untabbed}
use Rattle.yaml_lexeme.specs.Reading.{Offence, Found, Read, found, refuse, ◌>>=◌, Part, part, over, many}
use Rattle.yaml_lexeme.proofs.LongestLists.LongestParts.{split, many_longest, many_refused, found_of}
use Rattle.yaml_lexeme.proofs.LongestLists.LongestParts.{refused_of, joined_of, others_begin}
use Rattle.yaml_lexeme.proofs.Places.PlaceMoves.{skip_none, rest_skip, peek_on}
use Rattle.yaml_lexeme.proofs.Locality.PlainLocality.{unless_bad, chunk_within}
use Rattle.yaml_lexeme.proofs.Readers.FoldSeparators.{stopped}
use Rattle.yaml_lexeme.proofs.Locality.PlainLocality.{link_advances}
use Rattle.yaml_lexeme.proofs.Parts.ReadResults.{value_or, end_or, offence_or, both}
use Rattle.yaml_lexeme.proofs.Readers.PlainLinks.{tail_of, after_head, plain_is}

-- chunks
chunk_is : (flow : Bool) (p : Place) (f : Found (List ℕ)) → chunk flow p ≡ Ok f → (f.value ≡ take (chunk_len flow p.rest) p.rest) × (f.end ≡ skip (chunk_len flow p.rest) p)
unfolding chunk
chunk_is flow p f h =
    let k = chunk_len flow p.rest in
    let end = skip k p in
    unless_bad (is_bad_colon flow (first end) (peek end 1)) (take k p.rest) end f h

chunk_all : (flow : Bool) (cs : List ℕ) (i : ℕ) → i < chunk_len flow cs → is_chunk flow (slice_index cs i) (slice_index cs (i + 1)) ≡ true
chunk_all flow [] i h = absurd (omega arith)
chunk_all flow (c ∷ cs) zero h =
    elim (cases_Bool (is_chunk flow c (slice_index cs 0))) [
      | inl is ↦ is
      | inr none ↦ let short : chunk_len flow (c ∷ cs) ≡ 0 = rw none refl in absurd (omega (arith, short))
    ]
chunk_all flow (c ∷ cs) (suc i) h =
    elim (cases_Bool (is_chunk flow c (slice_index cs 0))) [
      | inl is ↦
          let long : chunk_len flow (c ∷ cs) ≡ 1 + chunk_len flow cs = rw is refl in
          let next : suc i + 1 ≡ suc (i + 1) = omega arith in
          rw next (chunk_all flow cs i (omega (arith, long)))
      | inr none ↦ let short : chunk_len flow (c ∷ cs) ≡ 0 = rw none refl in absurd (omega (arith, short))
    ]

chunk_over : (flow : Bool) (cs : List ℕ) → let ds = drop (chunk_len flow cs) cs in is_chunk flow (slice_index ds 0) (slice_index ds 1) ≡ false
chunk_over flow [] = refl
chunk_over flow (c ∷ cs) =
    elim (cases_Bool (is_chunk flow c (slice_index cs 0))) [
      | inl is ↦
          let long : chunk_len flow (c ∷ cs) ≡ suc (chunk_len flow cs) = rw is (omega arith) in
          rw long (chunk_over flow cs)
      | inr none ↦ rw none none
    ]

chunk_joined : (flow : Bool) (p : Place) (f : Found (List ℕ)) → chunk flow p ≡ Ok f → p.rest ≡ f.value ++ f.end.rest
chunk_joined flow p f h =
    let t = chunk_is flow p f h in
    split (chunk_len flow p.rest) p ∙ ap (λ (cs : List ℕ). cs ++ (skip (chunk_len flow p.rest) p).rest) (sym t.0) ∙ ap (λ (q : Place). f.value ++ q.rest) (sym t.1)

pub chunk_longest : ChunkIsLongest
chunk_longest flow p f h =
    let k = chunk_len flow p.rest in
    let t = chunk_is flow p f h in
    let len = length-take-le k p.rest (chunk_within flow p.rest) in
    let rest : f.end.rest ≡ drop k p.rest = ap (λ (q : Place). q.rest) t.1 ∙ rest_skip k p in (
      chunk_joined flow p f h,
      λ i l. chunk_all flow p.rest i (omega (arith, len, ap length t.0)),
      subst (λ (cs : List ℕ). is_chunk flow (slice_index cs 0) (slice_index cs 1) ≡ false) (sym rest) (chunk_over flow p.rest),
    )

-- a chunk that is refused
abbrev problem_or : yaml_problem_t → Read (List ℕ) → yaml_problem_t
problem_or x (Ok f) = x
problem_or x (Err e) = e.problem

abbrev at_or : Place → Read (List ℕ) → Place
at_or x (Ok f) = x
at_or x (Err e) = e.at

bad_of : (b : Bool) (v : List ℕ) (end : Place) (e : Offence) → (if b then refuse COLON_IN_FLOW end else found v end) ≡ Err e → (b ≡ true) × (e.problem ≡ COLON_IN_FLOW) × (e.at ≡ end)
bad_of true v end e h = (refl, sym (ap (problem_or COLON_IN_FLOW) h), sym (ap (at_or end) h))
bad_of false v end e h = absurd cc

chunk_refused_from : (flow : Bool) (p : Place) (e : Offence) → chunk flow p ≡ Err e → ChunkRefused flow p e
unfolding chunk
chunk_refused_from flow p e h =
    let k = chunk_len flow p.rest in
    let end = skip k p in
    let t = bad_of (is_bad_colon flow (first end) (peek end 1)) (take k p.rest) end e h in
    let len : length (take k p.rest) ≡ k = length-take-le k p.rest (chunk_within flow p.rest) in
    record {
      text = take k p.rest;
      joined = split k p ∙ ap (λ (q : Place). take k p.rest ++ q.rest) (sym t.2);
      at = t.2 ∙ ap (λ (n : ℕ). skip n p) (sym len);
      all = λ i l. chunk_all flow p.rest i (omega (arith, len));
      colon = subst (λ (q : Place). is_bad_colon flow (first q) (peek q 1) ≡ true) (sym t.2) t.0;
      problem = t.1;
    }

chunk_len_is : (flow : Bool) (cs : List ℕ) (k : ℕ) → k ≤ length cs → ((i : ℕ) → i < k → is_chunk flow (slice_index cs i) (slice_index cs (i + 1)) ≡ true) → is_chunk flow (slice_index cs k) (slice_index cs (k + 1)) ≡ false → chunk_len flow cs ≡ k
chunk_len_is flow [] k h all stop = omega arith
chunk_len_is flow (c ∷ cs) zero h all stop = rw stop refl
chunk_len_is flow (c ∷ cs) (suc k) h all stop =
    let next : (i : ℕ) → i < k → is_chunk flow (slice_index cs i) (slice_index cs (i + 1)) ≡ true = λ i l. (let e : suc i + 1 ≡ suc (i + 1) = omega arith in rw e at (all (suc i) (omega arith))) in
    let e : suc k + 1 ≡ suc (k + 1) = omega arith in
    let more = chunk_len_is flow cs k (omega arith) next (rw e at stop) in
    rw (all 0 (omega arith)) (omega (arith, more))

no_chunk : (x b : Bool) → b ≡ true → (x && not b) ≡ false
no_chunk true true h = refl
no_chunk false b h = refl
no_chunk true false h = absurd cc

text_within : (text more rest : List ℕ) → rest ≡ text ++ more → length text ≤ length rest
text_within text more rest e = omega (arith, length-append text more, ap length e)

chunk_refused_to : (flow : Bool) (p : Place) (e : Offence) → ChunkRefused flow p e → chunk flow p ≡ Err e
unfolding chunk
chunk_refused_to flow p e r =
    let k = length r.text in
    let bad : is_bad_colon flow (peek (skip k p) 0) (peek (skip k p) 1) ≡ true = subst (λ (q : Place). is_bad_colon flow (first q) (peek q 1) ≡ true) r.at r.colon in
    let none : is_chunk flow (peek (skip k p) 0) (peek (skip k p) 1) ≡ false = no_chunk _ (is_bad_colon flow (peek (skip k p) 0) (peek (skip k p) 1)) bad in
    let zero_on : k + 0 ≡ k = omega arith in
    let here : is_chunk flow (peek p k) (peek p (k + 1)) ≡ false = subst (λ (c : ℕ). is_chunk flow c (peek p (k + 1)) ≡ false) (peek_on k 0 p ∙ ap (peek p) zero_on) (subst (λ (d : ℕ). is_chunk flow (peek (skip k p) 0) d ≡ false) (peek_on k 1 p) none) in
    let len : chunk_len flow p.rest ≡ k = chunk_len_is flow p.rest k (text_within r.text e.at.rest p.rest r.joined) r.all here in
    rw (len, bad) (ap (λ (x : yaml_problem_t). refuse x (skip k p)) (sym r.problem) ∙ ap (λ (x : Place). refuse e.problem x) (sym r.at))

-- links
not_over : (b : Bool) (y : Part (List ℕ)) (f : Found (List ℕ)) → (if b then over else y) ≡ part f.value f.end → (b ≡ false) × (y ≡ part f.value f.end)
not_over true y f h = absurd cc
not_over false y f h = (refl, h)

no_tab : (o : Option Place) (v : List ℕ) (e : Place) (g : Found (List ℕ) → Part (List ℕ)) (f : Found (List ℕ)) → (untabbed o v e >>= g) ≡ part f.value f.end
    → (untabbed o v e ≡ found v e) × (g (record { value = v; end = e }) ≡ part f.value f.end)
no_tab None v e g f h = (refl, h)
no_tab (Some t) v e g f h = absurd cc

abbrev value_in : Part (List ℕ) → List ℕ
value_in (Ok (Some f)) = f.value
value_in (Ok None) = []
value_in (Err e) = []

abbrev end_in : Place → Part (List ℕ) → Place
end_in p (Ok (Some f)) = f.end
end_in p (Ok None) = p
end_in p (Err e) = p

abbrev Linked : Bool → List ℕ → Place → Found (List ℕ) → Type 0
Linked flow gap q f = (c : List ℕ) × (chunk flow q ≡ found c f.end) × (0 < length c) × (f.value ≡ gap ++ c)

some : (k : ℕ) → (k == 0) ≡ false → 0 < k
some k h = grind (arith, nat_tests)

by_chunk : (flow : Bool) (gap : List ℕ) (q : Place) (f : Found (List ℕ)) (r : Read (List ℕ)) → chunk flow q ≡ r → (r >>= λ c. if length c.value == 0 then over else part (gap ++ c.value) c.end) ≡ part f.value f.end → Linked flow gap q f
by_chunk flow gap q f (Ok c) e h =
    let t = not_over (length c.value == 0) (part (gap ++ c.value) c.end) f h in
    (c.value, e ∙ ap (λ (x : Place). found c.value x) (ap (end_in q) t.1), some (length c.value) t.0, sym (ap value_in t.1))
by_chunk flow gap q f (Err o) e h = absurd cc

link_from : (flow : Bool) (least : ℕ) (p : Place) (f : Found (List ℕ)) → link flow least p ≡ part f.value f.end → LinkParts flow least p f
unfolding link separator
link_from flow least p f h =
    let end = after_run is_white p in
    let h1 = not_over (not (is_white (first p))) _ f h in
    let h2 = no_tab (bad_tab least p) (fold (run is_white p)) end _ f h1.1 in
    let h3 = not_over (is_over flow least end) _ f h2.1 in
    let t = by_chunk flow (fold (run is_white p)) end f (chunk flow end) refl h3.1 in
    record {
      text = t.0;
      white = not-false (is_white (first p)) h1.0;
      stops = stopped is_white p refl;
      separator = h2.0;
      goes_on = h3.0;
      chunk = t.1;
      some = t.2;
      value = t.3;
    }

not_none : (k : ℕ) → 0 < k → (k == 0) ≡ false
not_none k h = grind (arith, nat_tests)

link_to : (flow : Bool) (least : ℕ) (p : Place) (f : Found (List ℕ)) → LinkParts flow least p f → link flow least p ≡ part f.value f.end
unfolding link
link_to flow least p f l =
    let none : (length l.text == 0) ≡ false = not_none (length l.text) l.some in
    rw (l.white, l.separator, l.goes_on, l.chunk, none) (ap (λ (v : List ℕ). part v f.end) (sym l.value))

pub link_longest : LinkIsLongest
link_longest flow least p f = (link_from flow least p f, link_to flow least p f)

-- if a link is over
over_or : (b : Bool) (y : Part (List ℕ)) → (if b then over else y) ≡ over → (b ≡ true) ⊎ (y ≡ over)
over_or true y h = inl refl
over_or false y h = inr h

tab_or : (o : Option Place) (v : List ℕ) (e : Place) (g : Found (List ℕ) → Part (List ℕ)) → (untabbed o v e >>= g) ≡ over → (untabbed o v e ≡ found v e) × (g (record { value = v; end = e }) ≡ over)
tab_or None v e g h = (refl, h)
tab_or (Some t) v e g h = absurd cc

empty : (cs : List ℕ) → length cs ≡ 0 → cs ≡ []
empty [] h = refl
empty (c ∷ cs) h = absurd (omega arith)

no_more : (b : Bool) (v : List ℕ) (q : Place) → (if b then over else part v q) ≡ over → b ≡ true
no_more true v q h = refl
no_more false v q h = absurd cc

chunk_none : (flow : Bool) (gap : List ℕ) (q : Place) (r : Read (List ℕ)) → chunk flow q ≡ r → (r >>= λ c. if length c.value == 0 then over else part (gap ++ c.value) c.end) ≡ over → chunk flow q ≡ found [] q
chunk_none flow gap q (Ok c) e h =
    let k = chunk_len flow q.rest in
    let z : length c.value ≡ 0 = eqb-true (length c.value) 0 (no_more (length c.value == 0) (gap ++ c.value) c.end h) in
    let t = chunk_is flow q c e in
    let len : length (take k q.rest) ≡ k = length-take-le k q.rest (chunk_within flow q.rest) in
    let none : k ≡ 0 = omega (arith, z, len, ap length t.0) in
    let end : c.end ≡ q = t.1 ∙ ap (λ (n : ℕ). skip n q) none ∙ skip_none q in
    e ∙ ap (λ (v : List ℕ). found v c.end) (empty c.value z) ∙ ap (λ (x : Place). found [] x) end
chunk_none flow gap q (Err o) e h = absurd cc

over_from : (flow : Bool) (least : ℕ) (p : Place) → link flow least p ≡ over → (is_white (first p) ≡ false) ⊎ SeparatorEnds flow least p
unfolding link separator
over_from flow least p h =
    elim (over_or (not (is_white (first p))) _ h) [
      | inl none ↦ inl (is_not (is_white (first p)) none)
      | inr h1 ↦
          let end = after_run is_white p in
          let h2 = tab_or (bad_tab least p) (fold (run is_white p)) end _ h1 in
          inr (record {
            separator = h2.0;
            ends = elim (over_or (is_over flow least end) _ h2.1) [
              | inl e ↦ inl e
              | inr h3 ↦ inr (chunk_none flow (fold (run is_white p)) end (chunk flow end) refl h3)
            ];
          })
    ]
  where
    is_not : (b : Bool) → not b ≡ true → b ≡ false
    is_not true h = sym h
    is_not false h = refl

separator_over : (flow : Bool) (least : ℕ) (p : Place) (w : Bool) → is_white (first p) ≡ w → SeparatorEnds flow least p → link flow least p ≡ over
unfolding link
separator_over flow least p false w s = rw w refl
separator_over flow least p true w s =
    elim s.ends [
      | inl e ↦ rw (w, s.separator, e) refl
      | inr e ↦ rw (w, s.separator) (either (is_over flow least (after_run is_white p)) _ (rw e refl))
    ]
  where
    either : (b : Bool) (y : Part (List ℕ)) → y ≡ over → (if b then over else y) ≡ over
    either true y h = refl
    either false y h = h

over_to : (flow : Bool) (least : ℕ) (p : Place) → (is_white (first p) ≡ false) ⊎ SeparatorEnds flow least p → link flow least p ≡ over
unfolding link
over_to flow least p (inl none) = rw none refl
over_to flow least p (inr s) = separator_over flow least p (is_white (first p)) refl s

pub link_over : LinkIsOver
link_over flow least p = (over_from flow least p, over_to flow least p)

-- plain scalars
links_from : (flow : Bool) (least : ℕ) (p : Place) (f : Found Scalar) (head : Found (List ℕ)) → chunk flow p ≡ Ok head → (r : Read (List (List ℕ))) → many (link flow least) head.end ≡ r → tail_of head.value r ≡ Ok f → PlainParts flow least p f
links_from flow least p f head starts (Ok b) e h =
    let l = many_longest (link flow least) (link_advances flow least) head.end b e in
    record {
      head = head;
      links = l.pieces;
      last = b.end;
      starts = starts;
      longest = l.is;
      joined = chunk_joined flow p head starts ∙ ap (λ (cs : List ℕ). head.value ++ cs) (joined_of l.is) ∙ sym (append_assoc head.value (texts l.pieces) b.end.rest);
      value = sym (ap (value_or (plain_scalar head.value b.value b.end)) h) ∙ ap (λ (vs : List (List ℕ)). plain_scalar head.value vs b.end) l.values_are;
      end = sym (ap (end_or b.end) h);
    }
links_from flow least p f head starts (Err o) e h = absurd cc

head_from : (flow : Bool) (least : ℕ) (p : Place) (f : Found Scalar) (r : Read (List ℕ)) → chunk flow p ≡ r → after_head flow least r ≡ Ok f → PlainParts flow least p f
head_from flow least p f (Ok head) e h = links_from flow least p f head e (many (link flow least) head.end) refl h
head_from flow least p f (Err o) e h = absurd cc

plain_to : (flow : Bool) (least : ℕ) (p : Place) (f : Found Scalar) → PlainParts flow least p f → plain flow least p ≡ Ok f
plain_to flow least p f q =
    plain_is flow least p ∙ ap (after_head flow least) q.starts ∙ ap (tail_of q.head.value) (found_of (link flow least) (link_advances flow least) q.head.end q.links q.last q.longest)
    ∙ both f (plain_scalar q.head.value (values q.links) q.last) (after_run is_white q.last) q.value q.end

pub plain_parts : PlainIsParts
plain_parts flow least p f = (λ h. head_from flow least p f (chunk flow p) refl (sym (plain_is flow least p) ∙ h), plain_to flow least p f)

links_refused : (flow : Bool) (least : ℕ) (p : Place) (e : Offence) (head : Found (List ℕ)) → chunk flow p ≡ Ok head → (r : Read (List (List ℕ))) → many (link flow least) head.end ≡ r → tail_of head.value r ≡ Err e → LinksRefused flow least p e
links_refused flow least p e head starts (Ok b) is h = absurd cc
links_refused flow least p e head starts (Err o) is h =
    let m = many_refused (link flow least) (link_advances flow least) head.end e (is ∙ ap (λ (x : Offence). Err x) (ap (offence_or o) h)) in
    record { head = head; links = m.0; last = m.1; starts = starts; longest = m.2 }

head_refused : (flow : Bool) (least : ℕ) (p : Place) (e : Offence) (r : Read (List ℕ)) → chunk flow p ≡ r → after_head flow least r ≡ Err e → ChunkRefused flow p e ⊎ LinksRefused flow least p e
head_refused flow least p e (Ok head) is h = inr (links_refused flow least p e head is (many (link flow least) head.end) refl h)
head_refused flow least p e (Err o) is h = inl (chunk_refused_from flow p e (is ∙ ap (λ (x : Offence). Err x) (ap (offence_or o) h)))

refused_to : (flow : Bool) (least : ℕ) (p : Place) (e : Offence) → ChunkRefused flow p e ⊎ LinksRefused flow least p e → plain flow least p ≡ Err e
refused_to flow least p e (inl h) = plain_is flow least p ∙ ap (after_head flow least) (chunk_refused_to flow p e h)
refused_to flow least p e (inr r) =
    plain_is flow least p ∙ ap (after_head flow least) r.starts ∙ ap (tail_of r.head.value) (refused_of (link flow least) (link_advances flow least) r.head.end r.links r.last e r.longest)

pub plain_refused : PlainIsRefused
plain_refused flow least p e = (λ h. head_refused flow least p e (chunk flow p) refl (sym (plain_is flow least p) ∙ h), refused_to flow least p e)

pub links_longest : LinksAreLongest
links_longest flow least = others_begin (link flow least)

-- Tags are their handles and suffixes.
use Rattle.std.proofs.Common.{◌≡◌, ℕ, Bool, true, false, ◌==◌, inl, inr, if◌then◌else◌, List, [], ◌∷◌, ◌++◌, slice_index, Ok, Err, refl, sym, ap, ◌∙◌, subst, arith, append_assoc, eqb-true}
use Rattle.std.specs.List.{list_all}
use Rattle.std.proofs.lemmas.Bool.{cases_Bool, and_parts, ne_eqb, true≢false}
use Rattle.yaml_text.specs.Classes.{is_alpha}
use Rattle.yaml_text.specs.Token.{TokenData}
use Rattle.yaml_text.specs.Token.TokenData.{TAG}
use Rattle.yaml_lexeme.specs.declared.problem.yaml_problem_t.TheVariants.{NO_CLOSING_ANGLE, NO_BLANK_OR_BREAK}
use Rattle.yaml_lexeme.specs.Grammar.{LongestRun, VerbatimTag, NamedTag, PrimaryTag, TagText, is_after_tag, TagParts, TagIsParts, TagRefused, TagIsRefused}
use Rattle.yaml_lexeme.specs.Grammar.TagRefused.{verbatim, unclosed, named, primary, goes_on}
use Rattle.yaml_lexeme.specs.Parts.{texts}
use Rattle.yaml_lexeme.specs.Place.{Place, first, skip, run, after_run}
use Rattle.yaml_lexeme.specs.Reading.{Offence, Found, Read, found, refuse, ◌>>=◌}
use Rattle.yaml_lexeme.specs.Tag.{lone, angled, with_handle, handled, tag_parts, tag}
use Rattle.yaml_lexeme.specs.Uri.{uri, some_uri}
use Rattle.yaml_lexeme.proofs.Grammars.RunTexts.{of_run, run_of, sign_is}
use Rattle.yaml_lexeme.proofs.Grammars.ReadingSteps.{passed, failed, taken, left, steps, stops, then_second, first_refused, offence_is}
use Rattle.yaml_lexeme.proofs.Grammars.UriGrammar.{some_from, some_to, some_refused}
use Rattle.yaml_lexeme.proofs.LongestLists.UriLongest.{uri_parts, uri_refused}
use Rattle.yaml_lexeme.proofs.Parts.ReadResults.{both}
use Rattle.yaml_lexeme.proofs.Places.PlaceMoves.{skip_skip}
use Rattle.yaml_lexeme.proofs.LongestLists.LongestParts.{joined_of}

abbrev Tag : Type 0
Tag = Found TokenData

-- VERBATIM TAGS

abbrev close_at : Found (List ℕ) → Read TokenData
close_at r = if first r.end == 0x3E then found (TAG [] r.value) (skip 1 r.end) else refuse NO_CLOSING_ANGLE r.end

angled_is : (p : Place) → angled (skip 1 p) ≡ some_uri true (skip 2 p) >>= close_at
unfolding angled
angled_is p = ap (λ (x : Place). some_uri true x >>= close_at) (skip_skip 1 1 p)

verbatim_from : (p : Place) (f : Tag) → first p ≡ 0x21 → first (skip 1 p) ≡ 0x3C → angled (skip 1 p) ≡ Ok f → VerbatimTag p f
verbatim_from p f mark angle h =
    let s = steps (some_uri true (skip 2 p)) close_at f (sym (angled_is p) ∙ h) in
    let t = passed (first s.0.end == 0x3E) (record { value = TAG [] s.0.value; end = skip 1 s.0.end }) f _ s.2 in
    let u = some_from true (skip 2 p) s.0 s.1 in
    let closed = eqb-true (first s.0.end) 0x3E t.0 in
    let second : (skip 1 p).rest ≡ 0x3C ∷ (skip 2 p).rest = sign_is 0x3C (skip 1 p) (omega arith) angle ∙ ap (λ (x : Place). 0x3C ∷ x.rest) (skip_skip 1 1 p) in
    let last : s.0.end.rest ≡ 0x3E ∷ f.end.rest = sign_is 0x3E s.0.end (omega arith) closed ∙ ap (λ (x : Tag). 0x3E ∷ x.end.rest) (sym t.1) in
    let body : (skip 2 p).rest ≡ (texts u.0.parts ++ (0x3E ∷ [])) ++ f.end.rest =
    joined_of u.0.longest ∙ ap (λ (cs : List ℕ). texts u.0.parts ++ cs) last ∙ sym (append_assoc (texts u.0.parts) (0x3E ∷ []) f.end.rest) in
    record {
      suffix = s.0;
      angle = angle;
      uri = u.0;
      some = u.1;
      closed = closed;
      text = sign_is 0x21 p (omega arith) mark ∙ ap (λ (cs : List ℕ). 0x21 ∷ cs) second ∙ ap (λ (cs : List ℕ). 0x21 ∷ 0x3C ∷ cs) body;
      end = ap (λ (x : Tag). x.end) t.1;
      says = ap (λ (x : Tag). x.value) t.1;
    }

angle_is : (p : Place) → first (skip 1 p) ≡ 0x3C → tag_parts p ≡ angled (skip 1 p)
angle_is p angle = let test : (first (skip 1 p) == 0x3C) ≡ true = rw angle refl in taken (first (skip 1 p) == 0x3C) (angled (skip 1 p)) (handled (skip 1 p)) test

no_angle_is : (p : Place) → (first (skip 1 p) == 0x3C) ≡ false → tag_parts p ≡ handled (skip 1 p)
no_angle_is p test = left (first (skip 1 p) == 0x3C) (angled (skip 1 p)) (handled (skip 1 p)) test

verbatim_to : (p : Place) (f : Tag) → VerbatimTag p f → tag_parts p ≡ Ok f
verbatim_to p f v =
    let test : (first v.suffix.end == 0x3E) ≡ true = (let c = v.closed in rw c refl) in
    let close : close_at v.suffix ≡ Ok f = taken (first v.suffix.end == 0x3E) _ _ test ∙ both f (TAG [] v.suffix.value) (skip 1 v.suffix.end) v.says v.end in
    angle_is p v.angle ∙ angled_is p ∙ then_second (some_uri true (skip 2 p)) close_at v.suffix (Ok f) (some_to true (skip 2 p) v.suffix v.uri v.some) close

-- TAGS WITH A HANDLE

abbrev letters_at : Place → Found (List ℕ)
letters_at p = record { value = run is_alpha (skip 1 p); end = after_run is_alpha (skip 1 p) }

letters_are : (p : Place) → LongestRun is_alpha (skip 1 p) (letters_at p).value (letters_at p).end
letters_are p = of_run is_alpha (skip 1 p) refl

abbrev named_as : Found (List ℕ) → Found (List ℕ) → Read TokenData
named_as g r = found (with_handle g.value r.value) r.end

abbrev primary_as : Found (List ℕ) → Found (List ℕ) → Read TokenData
primary_as g r = found (lone (g.value ++ r.value)) r.end

abbrev named_at : Found (List ℕ) → Read TokenData
named_at g = some_uri false (skip 1 g.end) >>= named_as g

abbrev primary_at : Found (List ℕ) → Read TokenData
primary_at g = uri false g.end >>= primary_as g

abbrev by_letters : Found (List ℕ) → Read TokenData
by_letters g = if first g.end == 0x21 then named_at g else primary_at g

handled_is : (p : Place) → handled (skip 1 p) ≡ by_letters (letters_at p)
unfolding handled
handled_is p = refl

-- the same at any longest run
handled_at : (p : Place) (g : Found (List ℕ)) → LongestRun is_alpha (skip 1 p) g.value g.end → handled (skip 1 p) ≡ by_letters g
handled_at p g l =
    let r = run_of is_alpha (skip 1 p) g.value g.end l in
    let same : letters_at p ≡ g = ap (λ (v : List ℕ). record { value = v; end = (letters_at p).end }) (sym r.0) ∙ ap (λ (x : Place). record { value = g.value; end = x }) (sym r.1) in
    handled_is p ∙ ap by_letters same

named_from : (p : Place) (f : Tag) → first p ≡ 0x21 → first (letters_at p).end ≡ 0x21 → named_at (letters_at p) ≡ Ok f → NamedTag p f
named_from p f mark second h =
    let g = letters_at p in
    let l = letters_are p in
    let s = steps (some_uri false (skip 1 g.end)) (named_as g) f h in
    let u = some_from false (skip 1 g.end) s.0 s.1 in
    let same : named_as g s.0 ≡ Ok f = s.2 in
    let is : f ≡ record { value = with_handle g.value s.0.value; end = s.0.end } = cc in
    let end : f.end ≡ s.0.end = ap (λ (x : Tag). x.end) is in
    let t = texts u.0.parts in
    let uri_rest : (skip 1 g.end).rest ≡ t ++ f.end.rest = joined_of u.0.longest ∙ ap (λ (x : Place). t ++ x.rest) (sym end) in
    let rest : (skip 1 p).rest ≡ ((g.value ++ (0x21 ∷ [])) ++ t) ++ f.end.rest =
    l.joined ∙ ap (λ (cs : List ℕ). g.value ++ cs) (sign_is 0x21 g.end (omega arith) second ∙ ap (λ (cs : List ℕ). 0x21 ∷ cs) uri_rest)
    ∙ sym (append_assoc g.value (0x21 ∷ []) (t ++ f.end.rest)) ∙ sym (append_assoc (g.value ++ (0x21 ∷ [])) t f.end.rest) in
    record {
      letters = g;
      suffix = s.0;
      name = l;
      marked = second;
      uri = u.0;
      some = u.1;
      text = sign_is 0x21 p (omega arith) mark ∙ ap (λ (cs : List ℕ). 0x21 ∷ cs) rest;
      end = end;
      says = ap (λ (x : Tag). x.value) is;
    }

primary_from : (p : Place) (f : Tag) → first p ≡ 0x21 → (first (skip 1 p) == 0x3C) ≡ false → (first (letters_at p).end == 0x21) ≡ false → primary_at (letters_at p) ≡ Ok f → PrimaryTag p f
primary_from p f mark no_angle unmarked h =
    let g = letters_at p in
    let l = letters_are p in
    let s = steps (uri false g.end) (primary_as g) f h in
    let u = (uri_parts false g.end s.0).0 s.1 in
    let same : primary_as g s.0 ≡ Ok f = s.2 in
    let is : f ≡ record { value = lone (g.value ++ s.0.value); end = s.0.end } = cc in
    let end : f.end ≡ s.0.end = ap (λ (x : Tag). x.end) is in
    let t = texts u.parts in
    let uri_rest : g.end.rest ≡ t ++ f.end.rest = joined_of u.longest ∙ ap (λ (x : Place). t ++ x.rest) (sym end) in
    let rest : (skip 1 p).rest ≡ (g.value ++ t) ++ f.end.rest = l.joined ∙ ap (λ (cs : List ℕ). g.value ++ cs) uri_rest ∙ sym (append_assoc g.value t f.end.rest) in
    record {
      letters = g;
      suffix = s.0;
      no_angle = no_angle;
      name = l;
      unmarked = unmarked;
      uri = u;
      text = sign_is 0x21 p (omega arith) mark ∙ ap (λ (cs : List ℕ). 0x21 ∷ cs) rest;
      end = end;
      says = ap (λ (x : Tag). x.value) is;
    }

-- letters and a `!` do not begin with `<`
not_angle : (l : List ℕ) (q : Place) → list_all is_alpha l ≡ true → first q ≡ 0x21 → slice_index (l ++ q.rest) 0 ≡ 0x3C → ⊥
not_angle [] q all mark e = absurd (let same : 0x21 ≡ 0x3C = sym mark ∙ e in omega arith)
not_angle (c ∷ cs) q all mark e = true≢false (sym (subst (λ (d : ℕ). is_alpha d ≡ true) e (and_parts (is_alpha c) (list_all is_alpha cs) all).0))

named_no_angle : (p : Place) (g : Found (List ℕ)) → LongestRun is_alpha (skip 1 p) g.value g.end → first g.end ≡ 0x21 → (first (skip 1 p) == 0x3C) ≡ false
named_no_angle p g l marked = ne_eqb (first (skip 1 p)) 0x3C (λ e. not_angle g.value g.end l.all marked (ap (λ (cs : List ℕ). slice_index cs 0) (sym l.joined) ∙ e))

named_is : (p : Place) (g : Found (List ℕ)) → LongestRun is_alpha (skip 1 p) g.value g.end → first g.end ≡ 0x21 → tag_parts p ≡ named_at g
named_is p g l marked =
    let test : (first g.end == 0x21) ≡ true = rw marked refl in
    no_angle_is p (named_no_angle p g l marked) ∙ handled_at p g l ∙ taken (first g.end == 0x21) (named_at g) (primary_at g) test

primary_is : (p : Place) (g : Found (List ℕ)) → (first (skip 1 p) == 0x3C) ≡ false → LongestRun is_alpha (skip 1 p) g.value g.end → (first g.end == 0x21) ≡ false → tag_parts p ≡ primary_at g
primary_is p g none l unmarked = no_angle_is p none ∙ handled_at p g l ∙ left (first g.end == 0x21) (named_at g) (primary_at g) unmarked

named_to : (p : Place) (f : Tag) → NamedTag p f → tag_parts p ≡ Ok f
named_to p f v =
    named_is p v.letters v.name v.marked ∙ then_second (some_uri false (skip 1 v.letters.end)) (named_as v.letters) v.suffix (Ok f) (some_to false (skip 1 v.letters.end) v.suffix v.uri v.some)
    (both f (with_handle v.letters.value v.suffix.value) v.suffix.end v.says v.end)

primary_to : (p : Place) (f : Tag) → PrimaryTag p f → tag_parts p ≡ Ok f
primary_to p f v =
    primary_is p v.letters v.no_angle v.name v.unmarked ∙ then_second (uri false v.letters.end) (primary_as v.letters) v.suffix (Ok f) ((uri_parts false v.letters.end v.suffix).1 v.uri)
    (both f (lone (v.letters.value ++ v.suffix.value)) v.suffix.end v.says v.end)

-- ALL TAGS

handled_from : (p : Place) (f : Tag) → first p ≡ 0x21 → (first (skip 1 p) == 0x3C) ≡ false → tag_parts p ≡ Ok f → TagText p f
handled_from p f mark none h =
    let g = letters_at p in
    elim (cases_Bool (first g.end == 0x21)) [
      | inl second ↦ (let marked = eqb-true (first g.end) 0x21 second in inr (inl (named_from p f mark marked (sym (named_is p g (letters_are p) marked) ∙ h))))
      | inr unmarked ↦ inr (inr (primary_from p f mark none unmarked (sym (primary_is p g none (letters_are p) unmarked) ∙ h)))
    ]

text_from : (p : Place) (f : Tag) → first p ≡ 0x21 → tag_parts p ≡ Ok f → TagText p f
text_from p f mark h = elim (cases_Bool (first (skip 1 p) == 0x3C)) [
  | inl angled ↦ (let angle = eqb-true (first (skip 1 p)) 0x3C angled in inl (verbatim_from p f mark angle (sym (angle_is p angle) ∙ h)))
  | inr none ↦ handled_from p f mark none h
]

text_to : (p : Place) (f : Tag) → TagText p f → tag_parts p ≡ Ok f
text_to p f (inl v) = verbatim_to p f v
text_to p f (inr (inl v)) = named_to p f v
text_to p f (inr (inr v)) = primary_to p f v

abbrev if_over : Bool → Tag → Read TokenData
if_over flow t = if is_after_tag flow (first t.end) then found t.value t.end else refuse NO_BLANK_OR_BREAK t.end

tag_is : (flow : Bool) (p : Place) → tag flow p ≡ tag_parts p >>= if_over flow
unfolding tag
tag_is flow p = refl

parts_from : (flow : Bool) (p : Place) (f : Tag) → first p ≡ 0x21 → tag flow p ≡ Ok f → TagParts flow p f
parts_from flow p f mark h =
    let s = steps (tag_parts p) (if_over flow) f (sym (tag_is flow p) ∙ h) in
    let t = passed (is_after_tag flow (first s.0.end)) s.0 f _ s.2 in
    subst (λ (x : Tag). TagParts flow p x) (sym t.1) (record { text = text_from p s.0 mark s.1; follows = t.0 })

parts_to : (flow : Bool) (p : Place) (f : Tag) → TagParts flow p f → tag flow p ≡ Ok f
parts_to flow p f v = tag_is flow p ∙ then_second (tag_parts p) (if_over flow) f (Ok f) (text_to p f v.text) (taken (is_after_tag flow (first f.end)) _ _ v.follows)

pub tag_parts_are : TagIsParts
tag_parts_are flow p f mark = (parts_from flow p f mark, parts_to flow p f)

-- TAGS THAT ARE REFUSED

verbatim_refused : (flow : Bool) (p : Place) (e : Offence) → first (skip 1 p) ≡ 0x3C → angled (skip 1 p) ≡ Err e → TagRefused flow p e
verbatim_refused flow p e angle h = elim (stops (some_uri true (skip 2 p)) close_at e (sym (angled_is p) ∙ h)) [
  | inl bad ↦ verbatim angle ((some_refused true (skip 2 p) e).0 bad)
  | inr s ↦
      let t = failed (first s.0.end == 0x3E) _ _ e s.2 in
      let u = some_from true (skip 2 p) s.0 s.1 in
      unclosed s.0 angle u.0 u.1 t.0 (ap (λ (o : Offence). o.problem) t.1) (ap (λ (o : Offence). o.at) t.1)
]

handled_refused : (flow : Bool) (p : Place) (e : Offence) → (first (skip 1 p) == 0x3C) ≡ false → tag_parts p ≡ Err e → TagRefused flow p e
handled_refused flow p e none h =
    let g = letters_at p in
    elim (cases_Bool (first g.end == 0x21)) [
      | inl second ↦
          let marked = eqb-true (first g.end) 0x21 second in
          let there = sym (named_is p g (letters_are p) marked) ∙ h in
          elim (stops (some_uri false (skip 1 g.end)) (named_as g) e there) [
            | inl bad ↦ named g (letters_are p) marked ((some_refused false (skip 1 g.end) e).0 bad)
            | inr s ↦ absurd (let never = s.2 in cc)
          ]
      | inr unmarked ↦
          let there = sym (primary_is p g none (letters_are p) unmarked) ∙ h in
          elim (stops (uri false g.end) (primary_as g) e there) [
            | inl bad ↦ primary g none (letters_are p) unmarked ((uri_refused false g.end e).0 bad)
            | inr s ↦ absurd (let never = s.2 in cc)
          ]
    ]

text_refused : (flow : Bool) (p : Place) (e : Offence) → tag_parts p ≡ Err e → TagRefused flow p e
text_refused flow p e h = elim (cases_Bool (first (skip 1 p) == 0x3C)) [
  | inl angled ↦ (let angle = eqb-true (first (skip 1 p)) 0x3C angled in verbatim_refused flow p e angle (sym (angle_is p angle) ∙ h))
  | inr none ↦ handled_refused flow p e none h
]

refused_from : (flow : Bool) (p : Place) (e : Offence) → first p ≡ 0x21 → tag flow p ≡ Err e → TagRefused flow p e
refused_from flow p e mark h = elim (stops (tag_parts p) (if_over flow) e (sym (tag_is flow p) ∙ h)) [
  | inl bad ↦ text_refused flow p e bad
  | inr s ↦
      let t = failed (is_after_tag flow (first s.0.end)) _ _ e s.2 in
      goes_on s.0 (text_from p s.0 mark s.1) t.0 (ap (λ (o : Offence). o.problem) t.1) (ap (λ (o : Offence). o.at) t.1)
]

parts_refused_to : (flow : Bool) (p : Place) (e : Offence) → tag_parts p ≡ Err e → tag flow p ≡ Err e
parts_refused_to flow p e h = tag_is flow p ∙ first_refused (tag_parts p) (if_over flow) e h

refused_to : (flow : Bool) (p : Place) (e : Offence) → TagRefused flow p e → tag flow p ≡ Err e
refused_to flow p e (verbatim angle bad) = parts_refused_to flow p e (angle_is p angle ∙ angled_is p ∙ first_refused (some_uri true (skip 2 p)) close_at e ((some_refused true (skip 2 p) e).1 bad))
refused_to flow p e (unclosed suffix angle u some none problem at) =
    parts_refused_to flow p e (angle_is p angle ∙ angled_is p ∙ then_second (some_uri true (skip 2 p)) close_at suffix (Err e) (some_to true (skip 2 p) suffix u some)
    (left (first suffix.end == 0x3E) _ _ none ∙ offence_is e NO_CLOSING_ANGLE suffix.end problem at))
refused_to flow p e (named g l marked bad) = parts_refused_to flow p e (named_is p g l marked ∙ first_refused (some_uri false (skip 1 g.end)) (named_as g) e ((some_refused false (skip 1 g.end) e).1 bad))
refused_to flow p e (primary g none l unmarked bad) = parts_refused_to flow p e (primary_is p g none l unmarked ∙ first_refused (uri false g.end) (primary_as g) e ((uri_refused false g.end e).1 bad))
refused_to flow p e (goes_on f text more problem at) =
    tag_is flow p ∙ then_second (tag_parts p) (if_over flow) f (Err e) (text_to p f text) (left (is_after_tag flow (first f.end)) _ _ more ∙ offence_is e NO_BLANK_OR_BREAK f.end problem at)

pub tag_refused : TagIsRefused
tag_refused flow p e mark = (refused_from flow p e mark, refused_to flow p e)

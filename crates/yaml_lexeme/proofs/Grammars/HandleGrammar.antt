-- Handles and prefixes of tag directives are their texts.
use Rattle.std.proofs.Common.{◌≡◌, ℕ, Bool, true, false, not, ◌==◌, nat_lt, inl, inr, if◌then◌else◌, List, [], ◌∷◌, ◌++◌, length, codes, Ok, Err, refl, sym, ap, ◌∙◌, subst, arith, eqb-true}
use Rattle.std.proofs.lemmas.Bool.{cases_Bool, not-false, not_from_false}
use Rattle.std.proofs.lemmas.Bool.Decides.{nat_tests}
use Rattle.yaml_text.specs.Classes.{is_alpha, is_blank}
use Rattle.yaml_text.specs.Token.{TokenData}
use Rattle.yaml_text.specs.Token.TokenData.{TAG_DIRECTIVE}
use Rattle.yaml_lexeme.specs.declared.problem.yaml_problem_t.TheVariants.{NO_BLANK_OR_BREAK, NO_BLANK, NO_HANDLE, OPEN_HANDLE}
use Rattle.yaml_lexeme.specs.Classes.{ends}
use Rattle.yaml_lexeme.specs.Directive.{handle_at, tag_directive_at}
use Rattle.yaml_lexeme.specs.DirectiveGrammar.{ClosedHandle, LoneHandle, HandleParts, HandleRefused, HandleAfter, PrefixAfter, TagDirectiveParts, TagDirectiveRefused}
use Rattle.yaml_lexeme.specs.DirectiveGrammar.HandleRefused.{no_handle, not_closed}
use Rattle.yaml_lexeme.specs.DirectiveGrammar.TagDirectiveRefused.{bad_handle, no_blank, bad_prefix, prefix_goes_on}
use Rattle.yaml_lexeme.specs.Grammar.{LongestRun}
use Rattle.yaml_lexeme.specs.Parts.{texts}
use Rattle.yaml_lexeme.specs.Place.{Place, first, skip, after_run}
use Rattle.yaml_lexeme.specs.Reading.{Offence, Found, Read, found, refuse, ◌>>=◌}
use Rattle.yaml_lexeme.specs.Uri.{some_uri}
use Rattle.yaml_lexeme.proofs.Grammars.RunTexts.{of_run, sign_is, run_at, run_is, joined_on}
use Rattle.yaml_lexeme.proofs.Grammars.ReadingSteps.{unless_ok, unless_err, taken, left, not_so, steps, stops, then_second, first_refused, offence_is}
use Rattle.yaml_lexeme.proofs.Grammars.UriGrammar.{some_from, some_to, some_refused}
use Rattle.yaml_lexeme.proofs.Grammars.VersionGrammar.{blanks_at, blanks_are, after_blanks}
use Rattle.yaml_lexeme.proofs.Parts.ReadResults.{both}
use Rattle.yaml_lexeme.proofs.LongestLists.LongestParts.{joined_of}

-- HANDLES

abbrev lone_by : Found (List ℕ) → Read (List ℕ)
lone_by g = if nat_lt 0 (length g.value) then refuse OPEN_HANDLE g.end else found (codes "!") g.end

abbrev closed_by : Found (List ℕ) → Read (List ℕ)
closed_by g = found (codes "!" ++ g.value ++ codes "!") (skip 1 g.end)

abbrev by_sign : Found (List ℕ) → Read (List ℕ)
by_sign g = if first g.end == 0x21 then closed_by g else lone_by g

abbrev by_letters : Place → Found (List ℕ) → Read (List ℕ)
by_letters p g = if not (first p == 0x21) then refuse NO_HANDLE p else by_sign g

abbrev letters_at : Place → Found (List ℕ)
letters_at p = run_at is_alpha (skip 1 p)

letters_are : (p : Place) → LongestRun is_alpha (skip 1 p) (letters_at p).value (letters_at p).end
letters_are p = of_run is_alpha (skip 1 p) refl

handle_is : (p : Place) → handle_at p ≡ by_letters p (letters_at p)
unfolding handle_at
handle_is p = refl

-- the same at any longest run
handle_by : (p : Place) (g : Found (List ℕ)) → LongestRun is_alpha (skip 1 p) g.value g.end → handle_at p ≡ by_letters p g
handle_by p g l = handle_is p ∙ ap (by_letters p) (run_is is_alpha (skip 1 p) g l)

signed : (q : Place) → first q ≡ 0x21 → not (first q == 0x21) ≡ false
signed q e = rw e refl

nil_of : (cs : List ℕ) → nat_lt 0 (length cs) ≡ false → cs ≡ []
nil_of [] h = refl
nil_of (c ∷ cs) h = absurd (let some : nat_lt 0 (length (c ∷ cs)) ≡ true = grind (arith, nat_tests) in cc)

closed_from : (p : Place) (f : Found (List ℕ)) → first p ≡ 0x21 → first (letters_at p).end ≡ 0x21 → closed_by (letters_at p) ≡ Ok f → ClosedHandle p f
closed_from p f sign closed h =
    let g = letters_at p in
    let l = letters_are p in
    let is : f ≡ record { value = codes "!" ++ g.value ++ codes "!"; end = skip 1 g.end } = cc in
    let front = joined_on p.rest (skip 1 p).rest g.end.rest (0x21 ∷ []) g.value (sign_is 0x21 p (omega arith) sign) l.joined in
    let whole = joined_on p.rest g.end.rest (skip 1 g.end).rest ((0x21 ∷ []) ++ g.value) (0x21 ∷ []) front (sign_is 0x21 g.end (omega arith) closed) in
    record {
      letters = g;
      sign = sign;
      name = l;
      closed = closed;
      text = subst (λ (x : Found (List ℕ)). p.rest ≡ x.value ++ x.end.rest) (sym is) whole;
      value = ap (λ (x : Found (List ℕ)). x.value) is;
      end = ap (λ (x : Found (List ℕ)). x.end) is;
    }

lone_from : (p : Place) (f : Found (List ℕ)) → first p ≡ 0x21 → (first (letters_at p).end == 0x21) ≡ false → lone_by (letters_at p) ≡ Ok f → LoneHandle p f
lone_from p f sign no_sign h =
    let g = letters_at p in
    let s = unless_ok (nat_lt 0 (length g.value)) (found (codes "!") g.end) _ f h in
    let same : found (codes "!") g.end ≡ Ok f = s.1 in
    let is : f ≡ record { value = codes "!"; end = g.end } = cc in
    let none = subst (λ (cs : List ℕ). LongestRun is_alpha (skip 1 p) cs g.end) (nil_of g.value s.0) (letters_are p) in
    let whole : p.rest ≡ (0x21 ∷ []) ++ g.end.rest = sign_is 0x21 p (omega arith) sign ∙ ap (λ (cs : List ℕ). 0x21 ∷ cs) none.joined in
    let end : f.end ≡ g.end = ap (λ (x : Found (List ℕ)). x.end) is in
    record {
      sign = sign;
      no_letter = subst (λ (x : Place). LongestRun is_alpha (skip 1 p) [] x) (sym end) none;
      no_sign = subst (λ (x : Place). (first x == 0x21) ≡ false) (sym end) no_sign;
      text = subst (λ (x : Found (List ℕ)). p.rest ≡ x.value ++ x.end.rest) (sym is) whole;
      value = ap (λ (x : Found (List ℕ)). x.value) is;
    }

handle_from : (p : Place) (f : Found (List ℕ)) → handle_at p ≡ Ok f → HandleParts p f
handle_from p f h =
    let g = letters_at p in
    let s = unless_ok (not (first p == 0x21)) (by_sign g) _ f (sym (handle_is p) ∙ h) in
    let sign = eqb-true (first p) 0x21 (not-false (first p == 0x21) s.0) in
    elim (cases_Bool (first g.end == 0x21)) [
      | inl closed ↦ inl (closed_from p f sign (eqb-true (first g.end) 0x21 closed) (sym (taken (first g.end == 0x21) (closed_by g) (lone_by g) closed) ∙ s.1))
      | inr none ↦ inr (lone_from p f sign none (sym (left (first g.end == 0x21) (closed_by g) (lone_by g) none) ∙ s.1))
    ]

handle_to : (p : Place) (f : Found (List ℕ)) → HandleParts p f → handle_at p ≡ Ok f
handle_to p f (inl c) =
    let g = c.letters in
    let test : (first g.end == 0x21) ≡ true = (let e = c.closed in rw e refl) in
    handle_by p g c.name ∙ left (not (first p == 0x21)) _ (by_sign g) (signed p c.sign) ∙ taken (first g.end == 0x21) (closed_by g) (lone_by g) test ∙ both f (codes "!" ++ g.value ++ codes "!") (skip 1 g.end) c.value c.end
handle_to p f (inr c) =
    let g : Found (List ℕ) = record { value = []; end = f.end } in
    handle_by p g c.no_letter ∙ left (not (first p == 0x21)) _ (by_sign g) (signed p c.sign) ∙ left (first f.end == 0x21) (closed_by g) (lone_by g) c.no_sign ∙ both f (codes "!") f.end c.value refl

handle_refused_from : (p : Place) (e : Offence) → handle_at p ≡ Err e → HandleRefused p e
handle_refused_from p e h =
    let g = letters_at p in
    elim (unless_err (not (first p == 0x21)) (by_sign g) _ e (sym (handle_is p) ∙ h)) [
      | inl s ↦ no_handle (not_so (first p == 0x21) s.0) (ap (λ (o : Offence). o.problem) s.1) (ap (λ (o : Offence). o.at) s.1)
      | inr s ↦ elim (cases_Bool (first g.end == 0x21)) [
        | inl closed ↦ absurd (let never = sym (taken (first g.end == 0x21) (closed_by g) (lone_by g) closed) ∙ s.1 in cc)
        | inr none ↦ elim (unless_err (nat_lt 0 (length g.value)) (found (codes "!") g.end) _ e (sym (left (first g.end == 0x21) (closed_by g) (lone_by g) none) ∙ s.1)) [
          | inl t ↦
              not_closed g (eqb-true (first p) 0x21 (not-false (first p == 0x21) s.0)) (letters_are p) (let some = t.0 in grind (arith, nat_tests)) none
              (ap (λ (o : Offence). o.problem) t.1) (ap (λ (o : Offence). o.at) t.1)
          | inr t ↦ absurd (let never = t.1 in cc)
        ]
      ]
    ]

handle_refused_to : (p : Place) (e : Offence) → HandleRefused p e → handle_at p ≡ Err e
handle_refused_to p e (no_handle none problem at) =
    handle_is p ∙ taken (not (first p == 0x21)) _ (by_sign (letters_at p)) (not_from_false (first p == 0x21) none) ∙ offence_is e NO_HANDLE p problem at
handle_refused_to p e (not_closed g sign l some none problem at) =
    let test : nat_lt 0 (length g.value) ≡ true = grind (arith, nat_tests) in
    handle_by p g l ∙ left (not (first p == 0x21)) _ (by_sign g) (signed p sign) ∙ left (first g.end == 0x21) (closed_by g) (lone_by g) none
    ∙ taken (nat_lt 0 (length g.value)) _ _ test ∙ offence_is e OPEN_HANDLE g.end problem at

handle_text : (p : Place) (f : Found (List ℕ)) → HandleParts p f → p.rest ≡ f.value ++ f.end.rest
handle_text p f (inl c) = c.text
handle_text p f (inr c) = c.text

-- TAG DIRECTIVES

abbrev with_prefix : Found (List ℕ) → Found (List ℕ) → Read TokenData
with_prefix handle prefix = if not (ends (first prefix.end)) then refuse NO_BLANK_OR_BREAK prefix.end else found (TAG_DIRECTIVE handle.value prefix.value) prefix.end

abbrev prefix_at : Found (List ℕ) → Read TokenData
prefix_at handle = some_uri true (after_run is_blank handle.end) >>= with_prefix handle

abbrev after_handle : Found (List ℕ) → Read TokenData
after_handle handle = if not (is_blank (first handle.end)) then refuse NO_BLANK handle.end else prefix_at handle

tag_is : (p : Place) → tag_directive_at p ≡ handle_at (after_run is_blank p) >>= after_handle
unfolding tag_directive_at
tag_is p = refl

after_from : (p : Place) (handle : Found (List ℕ)) → handle_at (after_run is_blank p) ≡ Ok handle → HandleAfter p handle
after_from p handle h = record { blanks = blanks_at p; spaces = blanks_are p; parts = handle_from (after_run is_blank p) handle h }

after_to : (p : Place) (handle : Found (List ℕ)) → HandleAfter p handle → handle_at (after_run is_blank p) ≡ Ok handle
after_to p handle a = ap handle_at (after_blanks p a.blanks a.spaces) ∙ handle_to a.blanks.end handle a.parts

prefix_from : (p : Place) (prefix : Found (List ℕ)) → is_blank (first p) ≡ true → some_uri true (after_run is_blank p) ≡ Ok prefix → PrefixAfter p prefix
prefix_from p prefix blank h =
    let u = some_from true (after_run is_blank p) prefix h in
    record { blanks = blanks_at p; blank = blank; spaces = blanks_are p; uri = u.0; some = u.1 }

prefix_to : (p : Place) (prefix : Found (List ℕ)) → PrefixAfter p prefix → some_uri true (after_run is_blank p) ≡ Ok prefix
prefix_to p prefix a = ap (λ (x : Place). some_uri true x) (after_blanks p a.blanks a.spaces) ∙ some_to true a.blanks.end prefix a.uri a.some

so : (b : Bool) → b ≡ true → not b ≡ false
so b h = rw h refl

pub tag_from : (p : Place) (f : Found TokenData) → tag_directive_at p ≡ Ok f → TagDirectiveParts p f
tag_from p f h =
    let s = steps (handle_at (after_run is_blank p)) after_handle f (sym (tag_is p) ∙ h) in
    let handle = s.0 in
    let t = unless_ok (not (is_blank (first handle.end))) (prefix_at handle) _ f s.2 in
    let u = steps (some_uri true (after_run is_blank handle.end)) (with_prefix handle) f t.1 in
    let prefix = u.0 in
    let v = unless_ok (not (ends (first prefix.end))) (found (TAG_DIRECTIVE handle.value prefix.value) prefix.end) _ f u.2 in
    let same : found (TAG_DIRECTIVE handle.value prefix.value) prefix.end ≡ Ok f = v.1 in
    let is : f ≡ record { value = TAG_DIRECTIVE handle.value prefix.value; end = prefix.end } = cc in
    let end : f.end ≡ prefix.end = ap (λ (x : Found TokenData). x.end) is in
    let before = after_from p handle s.1 in
    let after = prefix_from handle.end prefix (not-false (is_blank (first handle.end)) t.0) u.1 in
    let b = before.blanks.value in
    let c = after.blanks.value in
    let w = texts after.uri.parts in
    let one = joined_on p.rest before.blanks.end.rest handle.end.rest b handle.value before.spaces.joined (handle_text before.blanks.end handle before.parts) in
    let two = joined_on p.rest handle.end.rest after.blanks.end.rest (b ++ handle.value) c one after.spaces.joined in
    let three = joined_on p.rest after.blanks.end.rest prefix.end.rest ((b ++ handle.value) ++ c) w two (joined_of {p = after.blanks.end} {ts = after.uri.parts} after.uri.longest) in
    record {
      handle = handle;
      prefix = prefix;
      before = before;
      after = after;
      follows = not-false (ends (first prefix.end)) v.0;
      text = subst (λ (x : Place). p.rest ≡ (((b ++ handle.value) ++ c) ++ w) ++ x.rest) (sym end) three;
      end = end;
      says = ap (λ (x : Found TokenData). x.value) is;
    }

pub tag_to : (p : Place) (f : Found TokenData) → TagDirectiveParts p f → tag_directive_at p ≡ Ok f
tag_to p f v =
    tag_is p ∙ then_second (handle_at (after_run is_blank p)) after_handle v.handle (Ok f) (after_to p v.handle v.before)
    (left (not (is_blank (first v.handle.end))) _ (prefix_at v.handle) (so (is_blank (first v.handle.end)) v.after.blank)
    ∙ then_second (some_uri true (after_run is_blank v.handle.end)) (with_prefix v.handle) v.prefix (Ok f) (prefix_to v.handle.end v.prefix v.after)
    (left (not (ends (first v.prefix.end))) _ _ (so (ends (first v.prefix.end)) v.follows) ∙ both f (TAG_DIRECTIVE v.handle.value v.prefix.value) v.prefix.end v.says v.end))

pub tag_refused_from : (p : Place) (e : Offence) → tag_directive_at p ≡ Err e → TagDirectiveRefused p e
tag_refused_from p e h = elim (stops (handle_at (after_run is_blank p)) after_handle e (sym (tag_is p) ∙ h)) [
  | inl bad ↦ bad_handle (blanks_at p) (blanks_are p) (handle_refused_from (after_run is_blank p) e bad)
  | inr s ↦ (let handle = s.0 in elim (unless_err (not (is_blank (first handle.end))) (prefix_at handle) _ e s.2) [
    | inl t ↦ no_blank handle (after_from p handle s.1) (not_so (is_blank (first handle.end)) t.0) (ap (λ (o : Offence). o.problem) t.1) (ap (λ (o : Offence). o.at) t.1)
    | inr t ↦ (let blank = not-false (is_blank (first handle.end)) t.0 in elim (stops (some_uri true (after_run is_blank handle.end)) (with_prefix handle) e t.1) [
      | inl bad ↦ bad_prefix handle (blanks_at handle.end) (after_from p handle s.1) blank (blanks_are handle.end) ((some_refused true (after_run is_blank handle.end) e).0 bad)
      | inr u ↦ (let prefix = u.0 in elim (unless_err (not (ends (first prefix.end))) (found (TAG_DIRECTIVE handle.value prefix.value) prefix.end) _ e u.2) [
        | inl v ↦ prefix_goes_on handle prefix (after_from p handle s.1) (prefix_from handle.end prefix blank u.1) (not_so (ends (first prefix.end)) v.0) (ap (λ (o : Offence). o.problem) v.1) (ap (λ (o : Offence). o.at) v.1)
        | inr v ↦ absurd (let never = v.1 in cc)
      ])
    ])
  ])
]

pub tag_refused_to : (p : Place) (e : Offence) → TagDirectiveRefused p e → tag_directive_at p ≡ Err e
tag_refused_to p e (bad_handle g l bad) =
    tag_is p ∙ first_refused (handle_at (after_run is_blank p)) after_handle e (ap handle_at (after_blanks p g l) ∙ handle_refused_to g.end e bad)
tag_refused_to p e (no_blank handle before none problem at) =
    tag_is p ∙ then_second (handle_at (after_run is_blank p)) after_handle handle (Err e) (after_to p handle before)
    (taken (not (is_blank (first handle.end))) _ _ (not_from_false (is_blank (first handle.end)) none) ∙ offence_is e NO_BLANK handle.end problem at)
tag_refused_to p e (bad_prefix handle g before blank l bad) =
    tag_is p ∙ then_second (handle_at (after_run is_blank p)) after_handle handle (Err e) (after_to p handle before)
    (left (not (is_blank (first handle.end))) _ (prefix_at handle) (so (is_blank (first handle.end)) blank)
    ∙ first_refused (some_uri true (after_run is_blank handle.end)) (with_prefix handle) e (ap (λ (x : Place). some_uri true x) (after_blanks handle.end g l) ∙ (some_refused true g.end e).1 bad))
tag_refused_to p e (prefix_goes_on handle prefix before after none problem at) =
    tag_is p ∙ then_second (handle_at (after_run is_blank p)) after_handle handle (Err e) (after_to p handle before)
    (left (not (is_blank (first handle.end))) _ (prefix_at handle) (so (is_blank (first handle.end)) after.blank)
    ∙ then_second (some_uri true (after_run is_blank handle.end)) (with_prefix handle) prefix (Err e) (prefix_to handle.end prefix after)
    (taken (not (ends (first prefix.end))) _ _ (not_from_false (ends (first prefix.end)) none) ∙ offence_is e NO_BLANK_OR_BREAK prefix.end problem at))

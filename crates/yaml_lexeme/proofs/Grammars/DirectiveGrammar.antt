-- Directives are their names and what they say.
use Rattle.std.proofs.Common.{◌≡◌, ℕ, ◌<◌, Bool, true, false, not, ◌==◌, inl, inr, if◌then◌else◌, List, [], ◌∷◌, length, codes, Ok, Err, refl, sym, ap, ◌∙◌, subst, arith, eqb-true}
use Rattle.std.specs.Str.{bytes_eq}
use Rattle.std.proofs.lemmas.Bool.{cases_Bool, ne_eqb, not-false, not_from_false}
use Rattle.std.proofs.lemmas.Bool.Decides.{nat_tests}
use Rattle.std.proofs.lemmas.Slice.Eq.{bytes_eq-Decides}
use Rattle.yaml_text.specs.Classes.{is_alpha}
use Rattle.yaml_text.specs.Token.{TokenData}
use Rattle.yaml_lexeme.specs.declared.problem.yaml_problem_t.TheVariants.{NO_DIRECTIVE_NAME, DIRECTIVE_NAME_GOES_ON, UNKNOWN_DIRECTIVE}
use Rattle.yaml_lexeme.specs.Block.{after_line}
use Rattle.yaml_lexeme.specs.Classes.{ends}
use Rattle.yaml_lexeme.specs.Directive.{version_at, tag_directive_at, named, directive}
use Rattle.yaml_lexeme.specs.DirectiveGrammar.{DirectiveName, Named, DirectiveParts, DirectiveIsParts, DirectiveRefused, DirectiveIsRefused}
use Rattle.yaml_lexeme.specs.DirectiveGrammar.DirectiveRefused.{no_name, name_goes_on, unknown, bad_version, bad_tag, bad_line}
use Rattle.yaml_lexeme.specs.Grammar.{LongestRun}
use Rattle.yaml_lexeme.specs.Lexeme.{Directive}
use Rattle.yaml_lexeme.specs.Place.{Place, first, skip}
use Rattle.yaml_lexeme.specs.Reading.{Offence, Found, Read, found, refuse, ◌>>=◌}
use Rattle.yaml_lexeme.proofs.Grammars.RunTexts.{of_run, run_at, run_is, after_sign}
use Rattle.yaml_lexeme.proofs.Grammars.ReadingSteps.{unless_ok, unless_err, taken, left, not_so, steps, stops, then_second, first_refused, offence_is}
use Rattle.yaml_lexeme.proofs.Grammars.VersionGrammar.{version_from, version_to, version_refused_from, version_refused_to}
use Rattle.yaml_lexeme.proofs.Grammars.LineGrammar.{line_parts, line_refused}
use Rattle.yaml_lexeme.proofs.Grammars.HandleGrammar.{tag_from, tag_to, tag_refused_from, tag_refused_to}
use Rattle.yaml_lexeme.proofs.Parts.ReadResults.{both}

abbrev Data : Type 0
Data = TokenData

-- BY THE NAME

abbrev is_yaml : List ℕ → Bool
is_yaml name = bytes_eq name (codes "YAML")

abbrev is_tag : List ℕ → Bool
is_tag name = bytes_eq name (codes "TAG")

abbrev otherwise : List ℕ → Place → Read Data
otherwise name p = if is_tag name then tag_directive_at p else refuse UNKNOWN_DIRECTIVE p

named_is : (name : List ℕ) (p : Place) → named name p ≡ (if is_yaml name then version_at p else otherwise name p)
unfolding named
named_is name p = refl

at_yaml : (name : List ℕ) (p : Place) → name ≡ codes "YAML" → named name p ≡ version_at p
at_yaml name p e = named_is name p ∙ taken (is_yaml name) (version_at p) (otherwise name p) ((bytes_eq-Decides name (codes "YAML")).1 e)

at_tag : (name : List ℕ) (p : Place) → name ≡ codes "TAG" → named name p ≡ tag_directive_at p
at_tag name p e =
    let other : is_yaml name ≡ false = rw e refl in
    named_is name p ∙ left (is_yaml name) (version_at p) (otherwise name p) other ∙ taken (is_tag name) (tag_directive_at p) _ ((bytes_eq-Decides name (codes "TAG")).1 e)

at_none : (name : List ℕ) (p : Place) → is_yaml name ≡ false → is_tag name ≡ false → named name p ≡ refuse UNKNOWN_DIRECTIVE p
at_none name p a b = named_is name p ∙ left (is_yaml name) (version_at p) (otherwise name p) a ∙ left (is_tag name) (tag_directive_at p) _ b

differs : (name word : List ℕ) → bytes_eq name word ≡ false → name ≡ word → ⊥
differs name word h e = absurd (let same = (bytes_eq-Decides name word).1 e in cc)

tells : (name word : List ℕ) → (name ≡ word → ⊥) → bytes_eq name word ≡ false
tells name word h = elim (cases_Bool (bytes_eq name word)) [ inl is ↦ absurd (h ((bytes_eq-Decides name word).0 is)) | inr none ↦ none ]

named_from : (name : List ℕ) (p : Place) (f : Found Data) → named name p ≡ Ok f → Named name p f
named_from name p f h = elim (cases_Bool (is_yaml name)) [
  | inl yaml ↦ (let e = (bytes_eq-Decides name (codes "YAML")).0 yaml in inl (e, version_from p f (sym (at_yaml name p e) ∙ h)))
  | inr none ↦ elim (cases_Bool (is_tag name)) [
    | inl tag ↦ (let e = (bytes_eq-Decides name (codes "TAG")).0 tag in inr (e, tag_from p f (sym (at_tag name p e) ∙ h)))
    | inr neither ↦ absurd (let never = sym (at_none name p none neither) ∙ h in cc)
  ]
]

named_to : (name : List ℕ) (p : Place) (f : Found Data) → Named name p f → named name p ≡ Ok f
named_to name p f (inl (e, v)) = at_yaml name p e ∙ version_to p f v
named_to name p f (inr (e, v)) = at_tag name p e ∙ tag_to p f v

-- DIRECTIVES

abbrev said_as : Found Data → Place → Read Directive
said_as d next = found (record { says = d.value; end = d.end.mark }) next

abbrev line_of : Found Data → Read Directive
line_of d = after_line d.end >>= said_as d

abbrev says_by : Found (List ℕ) → Read Directive
says_by g = named g.value g.end >>= line_of

abbrev ended_by : Found (List ℕ) → Read Directive
ended_by g = if not (ends (first g.end)) then refuse DIRECTIVE_NAME_GOES_ON g.end else says_by g

abbrev by_letters : Found (List ℕ) → Read Directive
by_letters g = if length g.value == 0 then refuse NO_DIRECTIVE_NAME g.end else ended_by g

abbrev letters_at : Place → Found (List ℕ)
letters_at p = run_at is_alpha (skip 1 p)

letters_are : (p : Place) → LongestRun is_alpha (skip 1 p) (letters_at p).value (letters_at p).end
letters_are p = of_run is_alpha (skip 1 p) refl

directive_is : (p : Place) → directive p ≡ by_letters (letters_at p)
unfolding directive
directive_is p = refl

-- the same at any longest run
directive_by : (p : Place) (g : Found (List ℕ)) → LongestRun is_alpha (skip 1 p) g.value g.end → directive p ≡ by_letters g
directive_by p g l = directive_is p ∙ ap by_letters (run_is is_alpha (skip 1 p) g l)

some_of : (n : ℕ) → (n == 0) ≡ false → 0 < n
some_of n h = grind (arith, nat_tests)

so : (b : Bool) → b ≡ true → not b ≡ false
so b h = rw h refl

name_of : (p : Place) → (length (letters_at p).value == 0) ≡ false → not (ends (first (letters_at p).end)) ≡ false → DirectiveName p (letters_at p)
name_of p some ended =
    let g = letters_at p in
    let n = some_of (length g.value) some in
    record { text = after_sign is_alpha p g.value g.end (letters_are p) n; letters = letters_are p; some = n; follows = not-false (ends (first g.end)) ended }

-- what is read after a name
after_name : (p : Place) (g : Found (List ℕ)) → DirectiveName p g → directive p ≡ says_by g
after_name p g n =
    let some : (length g.value == 0) ≡ false = ne_eqb (length g.value) 0 (λ e. absurd (omega (arith, e, n.some))) in
    directive_by p g n.letters ∙ left (length g.value == 0) _ (ended_by g) some ∙ left (not (ends (first g.end))) _ (says_by g) (so (ends (first g.end)) n.follows)

parts_from : (p : Place) (f : Found Directive) → directive p ≡ Ok f → DirectiveParts p f
parts_from p f h =
    let g = letters_at p in
    let s = unless_ok (length g.value == 0) (ended_by g) _ f (sym (directive_is p) ∙ h) in
    let t = unless_ok (not (ends (first g.end))) (says_by g) _ f s.1 in
    let u = steps (named g.value g.end) line_of f t.1 in
    let v = steps (after_line u.0.end) (said_as u.0) f u.2 in
    let same : said_as u.0 v.0 ≡ Ok f = v.2 in
    let is : f ≡ record { value = record { says = u.0.value; end = u.0.end.mark }; end = v.0 } = cc in
    record {
      name = g;
      said = u.0;
      name_is = name_of p s.0 t.0;
      said_is = named_from g.value g.end u.0 u.1;
      line = (line_parts u.0.end f.end).0 (v.1 ∙ ap (λ (x : Found Directive). Ok x.end) (sym is));
      value = ap (λ (x : Found Directive). x.value) is;
    }

parts_to : (p : Place) (f : Found Directive) → DirectiveParts p f → directive p ≡ Ok f
parts_to p f d =
    let value : Directive = record { says = d.said.value; end = d.said.end.mark } in
    after_name p d.name d.name_is ∙ then_second (named d.name.value d.name.end) line_of d.said (Ok f) (named_to d.name.value d.name.end d.said d.said_is)
    (then_second (after_line d.said.end) (said_as d.said) f.end (Ok f) ((line_parts d.said.end f.end).1 d.line) (both f value f.end d.value refl))

pub directive_parts : DirectiveIsParts
directive_parts p f = (parts_from p f, parts_to p f)

-- DIRECTIVES THAT ARE REFUSED

said_refused : (p : Place) (e : Offence) (g : Found (List ℕ)) → DirectiveName p g → named g.value g.end ≡ Err e → DirectiveRefused p e
said_refused p e g n h = elim (cases_Bool (is_yaml g.value)) [
  | inl yaml ↦ (let is = (bytes_eq-Decides g.value (codes "YAML")).0 yaml in bad_version g n is (version_refused_from g.end e (sym (at_yaml g.value g.end is) ∙ h)))
  | inr none ↦ elim (cases_Bool (is_tag g.value)) [
    | inl tag ↦ (let is = (bytes_eq-Decides g.value (codes "TAG")).0 tag in bad_tag g n is (tag_refused_from g.end e (sym (at_tag g.value g.end is) ∙ h)))
    | inr neither ↦
        let same : refuse {A = Found Data} UNKNOWN_DIRECTIVE g.end ≡ Err e = sym (at_none g.value g.end none neither) ∙ h in
        let is : e ≡ record { problem = UNKNOWN_DIRECTIVE; at = g.end } = cc in
        unknown g n (differs g.value (codes "YAML") none) (differs g.value (codes "TAG") neither) (ap (λ (o : Offence). o.problem) is) (ap (λ (o : Offence). o.at) is)
  ]
]

nil_of : (cs : List ℕ) → (length cs == 0) ≡ true → cs ≡ []
nil_of [] h = refl
nil_of (c ∷ cs) h = absurd (let none = eqb-true (length (c ∷ cs)) 0 h in omega (arith, none))

refused_from : (p : Place) (e : Offence) → directive p ≡ Err e → DirectiveRefused p e
refused_from p e h =
    let g = letters_at p in
    elim (unless_err (length g.value == 0) (ended_by g) _ e (sym (directive_is p) ∙ h)) [
      | inl s ↦
          let run = subst (λ (cs : List ℕ). LongestRun is_alpha (skip 1 p) cs g.end) (nil_of g.value s.0) (letters_are p) in
          no_name (subst (λ (o : Offence). LongestRun is_alpha (skip 1 p) [] o.at) (sym s.1) run) (ap (λ (o : Offence). o.problem) s.1)
      | inr s ↦ elim (unless_err (not (ends (first g.end))) (says_by g) _ e s.1) [
        | inl t ↦
            name_goes_on g.value (subst (λ (o : Offence). LongestRun is_alpha (skip 1 p) g.value o.at) (sym t.1) (letters_are p)) (some_of (length g.value) s.0)
            (subst (λ (o : Offence). ends (first o.at) ≡ false) (sym t.1) (not_so (ends (first g.end)) t.0)) (ap (λ (o : Offence). o.problem) t.1)
        | inr t ↦ (let n = name_of p s.0 t.0 in elim (stops (named g.value g.end) line_of e t.1) [
          | inl bad ↦ said_refused p e g n bad
          | inr u ↦ (let d = u.0 in elim (stops (after_line d.end) (said_as d) e u.2) [
            | inl bad ↦ bad_line g d n (named_from g.value g.end d u.1) ((line_refused d.end e).0 bad)
            | inr v ↦ absurd (let never = v.2 in cc)
          ])
        ])
      ]
    ]

refused_to : (p : Place) (e : Offence) → DirectiveRefused p e → directive p ≡ Err e
refused_to p e (no_name l problem) = directive_by p (record { value = []; end = e.at }) l ∙ offence_is e NO_DIRECTIVE_NAME e.at problem refl
refused_to p e (name_goes_on letters l some none problem) =
    let test : (length letters == 0) ≡ false = ne_eqb (length letters) 0 (λ z. absurd (omega (arith, z, some))) in
    let g : Found (List ℕ) = record { value = letters; end = e.at } in
    directive_by p g l ∙ left (length letters == 0) _ (ended_by g) test ∙ taken (not (ends (first e.at))) _ (says_by g) (not_from_false (ends (first e.at)) none) ∙ offence_is e DIRECTIVE_NAME_GOES_ON e.at problem refl
refused_to p e (unknown g n yaml tag problem at) =
    after_name p g n ∙ first_refused (named g.value g.end) line_of e (at_none g.value g.end (tells g.value (codes "YAML") yaml) (tells g.value (codes "TAG") tag) ∙ offence_is e UNKNOWN_DIRECTIVE g.end problem at)
refused_to p e (bad_version g n is bad) = after_name p g n ∙ first_refused (named g.value g.end) line_of e (at_yaml g.value g.end is ∙ version_refused_to g.end e bad)
refused_to p e (bad_tag g n is bad) = after_name p g n ∙ first_refused (named g.value g.end) line_of e (at_tag g.value g.end is ∙ tag_refused_to g.end e bad)
refused_to p e (bad_line g d n is bad) =
    after_name p g n ∙ then_second (named g.value g.end) line_of d (Err e) (named_to g.value g.end d is) (first_refused (after_line d.end) (said_as d) e ((line_refused d.end e).1 bad))

pub directive_refused : DirectiveIsRefused
directive_refused p e = (refused_from p e, refused_to p e)

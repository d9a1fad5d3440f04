-- Numbers and versions of directives are their digits.
use Rattle.std.proofs.Common.{◌≡◌, ℕ, Bool, true, false, not, ◌==◌, nat_lt, inl, inr, if◌then◌else◌, List, [], ◌∷◌, ◌++◌, length, pos, Ok, Err, refl, sym, ap, ◌∙◌, subst, arith, eqb-true}
use Rattle.std.specs.Str.Parse.{digits_value}
use Rattle.std.proofs.lemmas.Bool.{ne_eqb, not-false, not_from_false}
use Rattle.std.proofs.lemmas.Bool.Decides.{nat_tests}
use Rattle.std.proofs.lemmas.List.Folds.{length-prefix_len}
use Rattle.yaml_text.specs.Classes.{is_blank, is_digit}
use Rattle.yaml_text.specs.Token.{TokenData}
use Rattle.yaml_text.specs.Token.TokenData.{VERSION_DIRECTIVE}
use Rattle.yaml_lexeme.specs.declared.problem.yaml_problem_t.TheVariants.{NO_NUMBER, LONG_NUMBER, NO_DOT}
use Rattle.yaml_lexeme.specs.Directive.{number, version_at}
use Rattle.yaml_lexeme.specs.DirectiveGrammar.{NumberParts, NumberRefused, NumberAfter, VersionParts, VersionRefused}
use Rattle.yaml_lexeme.specs.DirectiveGrammar.NumberRefused.{no_digit, too_long}
use Rattle.yaml_lexeme.specs.DirectiveGrammar.VersionRefused.{no_major, no_dot, no_minor}
use Rattle.yaml_lexeme.specs.Grammar.{LongestRun}
use Rattle.yaml_lexeme.specs.Place.{Place, first, skip, run, run_len, after_run}
use Rattle.yaml_lexeme.specs.Reading.{Offence, Found, Read, found, refuse, ◌>>=◌}
use Rattle.yaml_lexeme.proofs.Grammars.RunTexts.{of_run, sign_is, run_at, run_is, joined_on}
use Rattle.yaml_lexeme.proofs.Grammars.ReadingSteps.{unless_ok, unless_err, taken, left, not_so, steps, stops, then_second, first_refused, offence_is}
use Rattle.yaml_lexeme.proofs.Parts.ReadResults.{both}
use Rattle.yaml_lexeme.proofs.Places.PlaceMoves.{skip_none}

-- NUMBERS

abbrev few_digits : Found (List ℕ) → Place → Read ℕ
few_digits g p = if nat_lt 9 (length g.value) then refuse LONG_NUMBER (skip 9 p) else found (digits_value 10 g.value) g.end

abbrev by_digits : Place → Found (List ℕ) → Read ℕ
by_digits p g = if length g.value == 0 then refuse NO_NUMBER p else few_digits g p

digits_are : (p : Place) → LongestRun is_digit p (run_at is_digit p).value (run_at is_digit p).end
digits_are p = of_run is_digit p refl

number_is : (p : Place) → number p ≡ by_digits p (run_at is_digit p)
unfolding number
number_is p = let len : length (run is_digit p) ≡ run_len is_digit p = length-prefix_len is_digit p.rest in rw len refl

number_at : (p : Place) (g : Found (List ℕ)) → LongestRun is_digit p g.value g.end → number p ≡ by_digits p g
number_at p g l = number_is p ∙ ap (by_digits p) (run_is is_digit p g l)

number_from : (p : Place) (f : Found ℕ) → number p ≡ Ok f → NumberParts p f
number_from p f h =
    let g = run_at is_digit p in
    let s = unless_ok (length g.value == 0) (few_digits g p) _ f (sym (number_is p) ∙ h) in
    let t = unless_ok (nat_lt 9 (length g.value)) (found (digits_value 10 g.value) g.end) _ f s.1 in
    let same : found (digits_value 10 g.value) g.end ≡ Ok f = t.1 in
    let is : f ≡ record { value = digits_value 10 g.value; end = g.end } = cc in
    record {
      digits = g.value;
      all = subst (λ (x : Place). LongestRun is_digit p g.value x) (sym (ap (λ (x : Found ℕ). x.end) is)) (digits_are p);
      some = (let some = s.0 in grind (arith, nat_tests));
      few = (let few = t.0 in grind (arith, nat_tests));
      value = ap (λ (x : Found ℕ). x.value) is;
    }

number_to : (p : Place) (f : Found ℕ) → NumberParts p f → number p ≡ Ok f
number_to p f n =
    let g : Found (List ℕ) = record { value = n.digits; end = f.end } in
    let some : (length n.digits == 0) ≡ false = ne_eqb (length n.digits) 0 (λ e. absurd (omega (arith, e, n.some))) in
    let few : nat_lt 9 (length n.digits) ≡ false = (let most = n.few in grind (arith, nat_tests)) in
    number_at p g n.all ∙ left (length n.digits == 0) _ (few_digits g p) some ∙ left (nat_lt 9 (length n.digits)) _ _ few ∙ both f (digits_value 10 n.digits) f.end n.value refl

none_left : (test : ℕ → Bool) (p : Place) (f : Found (List ℕ)) → LongestRun test p f.value f.end → length f.value ≡ 0 → test (first p) ≡ false
none_left test p f l e =
    let here : f.end ≡ p = l.end ∙ ap (λ (n : ℕ). skip n p) e ∙ skip_none p in
    subst (λ (x : Place). test (first x) ≡ false) here l.stops

number_refused_from : (p : Place) (e : Offence) → number p ≡ Err e → NumberRefused p e
number_refused_from p e h =
    let g = run_at is_digit p in
    elim (unless_err (length g.value == 0) (few_digits g p) _ e (sym (number_is p) ∙ h)) [
      | inl s ↦ no_digit (none_left is_digit p g (digits_are p) (eqb-true (length g.value) 0 s.0)) (ap (λ (o : Offence). o.problem) s.1) (ap (λ (o : Offence). o.at) s.1)
      | inr s ↦ elim (unless_err (nat_lt 9 (length g.value)) (found (digits_value 10 g.value) g.end) _ e s.1) [
        | inl t ↦ too_long g (digits_are p) (let long = t.0 in grind (arith, nat_tests)) (ap (λ (o : Offence). o.problem) t.1) (ap (λ (o : Offence). o.at) t.1)
        | inr t ↦ absurd (let never = t.1 in cc)
      ]
    ]

no_run : (p : Place) → is_digit (first p) ≡ false → LongestRun is_digit p [] p
no_run p none = record { joined = refl; end = sym (skip_none p); all = refl; stops = none }

number_refused_to : (p : Place) (e : Offence) → NumberRefused p e → number p ≡ Err e
number_refused_to p e (no_digit none problem at) = number_at p (record { value = []; end = p }) (no_run p none) ∙ offence_is e NO_NUMBER p problem at
number_refused_to p e (too_long g l long problem at) =
    let some : (length g.value == 0) ≡ false = ne_eqb (length g.value) 0 (λ z. absurd (omega (arith, z, long))) in
    let test : nat_lt 9 (length g.value) ≡ true = grind (arith, nat_tests) in
    number_at p g l ∙ left (length g.value == 0) _ (few_digits g p) some ∙ taken (nat_lt 9 (length g.value)) _ _ test ∙ offence_is e LONG_NUMBER (skip 9 p) problem at

-- VERSIONS

abbrev pub blanks_at : Place → Found (List ℕ)
blanks_at p = run_at is_blank p

pub blanks_are : (p : Place) → LongestRun is_blank p (blanks_at p).value (blanks_at p).end
blanks_are p = of_run is_blank p refl

abbrev version_of : Found ℕ → Found ℕ → Read TokenData
version_of major minor = found (VERSION_DIRECTIVE (pos major.value) (pos minor.value)) minor.end

abbrev after_major : Found ℕ → Read TokenData
after_major major = if not (first major.end == 0x2E) then refuse NO_DOT major.end else number (skip 1 major.end) >>= version_of major

version_is : (p : Place) → version_at p ≡ number (after_run is_blank p) >>= after_major
unfolding version_at
version_is p = refl

-- the same after any longest run
pub after_blanks : (p : Place) (g : Found (List ℕ)) → LongestRun is_blank p g.value g.end → after_run is_blank p ≡ g.end
after_blanks p g l = ap (λ (x : Found (List ℕ)). x.end) (run_is is_blank p g l)

major_is : (p : Place) (major : Found ℕ) → NumberAfter p major → number (after_run is_blank p) ≡ Ok major
major_is p major n = ap number (after_blanks p n.blanks n.spaces) ∙ number_to n.blanks.end major n.number

major_from : (p : Place) (major : Found ℕ) → number (after_run is_blank p) ≡ Ok major → NumberAfter p major
major_from p major h = record { blanks = blanks_at p; spaces = blanks_are p; number = number_from (after_run is_blank p) major h }

whole_version : (p : Place) (f : Found TokenData) (major minor : Found ℕ) → NumberAfter p major → first major.end ≡ 0x2E → NumberParts (skip 1 major.end) minor → version_of major minor ≡ Ok f → VersionParts p f
whole_version p f major minor before dot after h =
    let is : f ≡ record { value = VERSION_DIRECTIVE (pos major.value) (pos minor.value); end = minor.end } = cc in
    let end : f.end ≡ minor.end = ap (λ (x : Found TokenData). x.end) is in
    let b = before.blanks.value in
    let m = before.number.digits in
    let n = after.digits in
    let front = joined_on p.rest before.blanks.end.rest major.end.rest b m before.spaces.joined before.number.all.joined in
    let point = joined_on p.rest major.end.rest (skip 1 major.end).rest (b ++ m) (0x2E ∷ []) front (sign_is 0x2E major.end (omega arith) dot) in
    let whole = joined_on p.rest (skip 1 major.end).rest minor.end.rest ((b ++ m) ++ (0x2E ∷ [])) n point after.all.joined in
    record {
      major = major;
      minor = minor;
      before = before;
      dot = dot;
      after = after;
      text = subst (λ (x : Place). p.rest ≡ (((b ++ m) ++ (0x2E ∷ [])) ++ n) ++ x.rest) (sym end) whole;
      end = end;
      says = ap (λ (x : Found TokenData). x.value) is;
    }

pub version_from : (p : Place) (f : Found TokenData) → version_at p ≡ Ok f → VersionParts p f
version_from p f h =
    let s = steps (number (after_run is_blank p)) after_major f (sym (version_is p) ∙ h) in
    let major = s.0 in
    let t = unless_ok (not (first major.end == 0x2E)) (number (skip 1 major.end) >>= version_of major) _ f s.2 in
    let u = steps (number (skip 1 major.end)) (version_of major) f t.1 in
    whole_version p f major u.0 (major_from p major s.1) (eqb-true (first major.end) 0x2E (not-false (first major.end == 0x2E) t.0)) (number_from (skip 1 major.end) u.0 u.1) u.2

dot_test : (q : Place) → first q ≡ 0x2E → not (first q == 0x2E) ≡ false
dot_test q dot = rw dot refl

pub version_to : (p : Place) (f : Found TokenData) → VersionParts p f → version_at p ≡ Ok f
version_to p f v =
    version_is p ∙ then_second (number (after_run is_blank p)) after_major v.major (Ok f) (major_is p v.major v.before)
    (left (not (first v.major.end == 0x2E)) _ _ (dot_test v.major.end v.dot)
    ∙ then_second (number (skip 1 v.major.end)) (version_of v.major) v.minor (Ok f) (number_to (skip 1 v.major.end) v.minor v.after)
    (both f (VERSION_DIRECTIVE (pos v.major.value) (pos v.minor.value)) v.minor.end v.says v.end))

pub version_refused_from : (p : Place) (e : Offence) → version_at p ≡ Err e → VersionRefused p e
version_refused_from p e h = elim (stops (number (after_run is_blank p)) after_major e (sym (version_is p) ∙ h)) [
  | inl bad ↦ no_major (blanks_at p) (blanks_are p) (number_refused_from (after_run is_blank p) e bad)
  | inr s ↦ (let major = s.0 in elim (unless_err (not (first major.end == 0x2E)) (number (skip 1 major.end) >>= version_of major) _ e s.2) [
    | inl t ↦ no_dot major (major_from p major s.1) (not_so (first major.end == 0x2E) t.0) (ap (λ (o : Offence). o.problem) t.1) (ap (λ (o : Offence). o.at) t.1)
    | inr t ↦ (let dot = eqb-true (first major.end) 0x2E (not-false (first major.end == 0x2E) t.0) in elim (stops (number (skip 1 major.end)) (version_of major) e t.1) [
      | inl bad ↦ no_minor major (major_from p major s.1) dot (number_refused_from (skip 1 major.end) e bad)
      | inr u ↦ absurd (let never = u.2 in cc)
    ])
  ])
]

pub version_refused_to : (p : Place) (e : Offence) → VersionRefused p e → version_at p ≡ Err e
version_refused_to p e (no_major g l bad) =
    version_is p ∙ first_refused (number (after_run is_blank p)) after_major e (ap number (after_blanks p g l) ∙ number_refused_to g.end e bad)
version_refused_to p e (no_dot major before none problem at) =
    version_is p ∙ then_second (number (after_run is_blank p)) after_major major (Err e) (major_is p major before)
    (taken (not (first major.end == 0x2E)) _ _ (not_from_false (first major.end == 0x2E) none) ∙ offence_is e NO_DOT major.end problem at)
version_refused_to p e (no_minor major before dot bad) =
    version_is p ∙ then_second (number (after_run is_blank p)) after_major major (Err e) (major_is p major before)
    (left (not (first major.end == 0x2E)) _ _ (dot_test major.end dot) ∙ first_refused (number (skip 1 major.end)) (version_of major) e (number_refused_to (skip 1 major.end) e bad))

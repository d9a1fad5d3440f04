-- Names are their letters.
use Rattle.std.proofs.Common.{◌≡◌, ℕ, ◌<◌, ◌⊎◌, Bool, true, false, ◌&&◌, nat_lt, inl, inr, List, [], ◌∷◌, length, Ok, Err, refl, sym, ap, ◌∙◌, subst, arith}
use Rattle.std.proofs.lemmas.Bool.{cases_Bool, and_parts}
use Rattle.std.proofs.lemmas.Bool.Decides.{nat_tests}
use Rattle.yaml_text.specs.Classes.{is_alpha}
use Rattle.yaml_lexeme.specs.declared.problem.yaml_problem_t.TheVariants.{NO_NAME}
use Rattle.yaml_lexeme.specs.Grammar.{LongestRun, NameParts, NameIsParts, NameRefused, NameIsRefused}
use Rattle.yaml_lexeme.specs.Name.{is_after_name, name}
use Rattle.yaml_lexeme.specs.Place.{Place, first, skip, run, after_run}
use Rattle.yaml_lexeme.specs.Reading.{Offence, Found, found, refuse}
use Rattle.yaml_lexeme.proofs.Grammars.RunTexts.{of_run, run_of, after_sign}
use Rattle.yaml_lexeme.proofs.Grammars.ReadingSteps.{passed, failed, taken, left, offence_is}
use Rattle.yaml_lexeme.proofs.Parts.ReadResults.{both}

-- the letters at p, and the place after them
abbrev letters_at : Place → Found (List ℕ)
letters_at p = record { value = run is_alpha (skip 1 p); end = after_run is_alpha (skip 1 p) }

abbrev is_name : Found (List ℕ) → Bool
is_name f = nat_lt 0 (length f.value) && is_after_name (first f.end)

name_from : (p : Place) (f : Found (List ℕ)) → f ≡ letters_at p → is_name f ≡ true → NameParts p f
name_from p f is test =
    let t = and_parts (nat_lt 0 (length f.value)) (is_after_name (first f.end)) test in
    let some : 0 < length f.value = (let s = t.0 in grind (arith, nat_tests)) in
    let letters = subst (λ (g : Found (List ℕ)). LongestRun is_alpha (skip 1 p) g.value g.end) (sym is) (of_run is_alpha (skip 1 p) refl) in
    record {
      text = after_sign is_alpha p f.value f.end letters some;
      letters = letters;
      some = some;
      follows = t.1;
    }

name_to : (p : Place) (f : Found (List ℕ)) → NameParts p f → name p ≡ Ok f
unfolding name
name_to p f n =
    let r = run_of is_alpha (skip 1 p) f.value f.end n.letters in
    let g = letters_at p in
    let many : nat_lt 0 (length f.value) ≡ true = (let s = n.some in grind (arith, nat_tests)) in
    let same : is_name g ≡ true = rw (sym r.0, sym r.1) (rw (many, n.follows) refl) in
    taken (is_name g) (found g.value g.end) (refuse NO_NAME g.end) same ∙ both f g.value g.end r.0 r.1

pub name_parts : NameIsParts
unfolding name
name_parts p f = (
  λ h. (let t = passed (is_name (letters_at p)) (letters_at p) f _ h in name_from p f t.1 (subst (λ (g : Found (List ℕ)). is_name g ≡ true) (sym t.1) t.0)),
  name_to p f,
)

abbrev no_name_at : Place → Offence
no_name_at q = record { problem = NO_NAME; at = q }

none_or_bad : (text : List ℕ) (b : Bool) → (nat_lt 0 (length text) && b) ≡ false → (text ≡ []) ⊎ (b ≡ false)
none_or_bad [] b h = inl refl
none_or_bad (c ∷ cs) b h = elim (cases_Bool b) [ inl is ↦ absurd (let f = rw is at h in let some : nat_lt 0 (length (c ∷ cs)) ≡ true = grind (arith, nat_tests) in cc) | inr bad ↦ inr bad ]

bad_of : (text : List ℕ) (b : Bool) → (text ≡ []) ⊎ (b ≡ false) → (nat_lt 0 (length text) && b) ≡ false
bad_of text b (inl e) = rw e refl
bad_of text b (inr e) = rw e (elim (cases_Bool (nat_lt 0 (length text))) [ inl is ↦ rw is refl | inr none ↦ rw none refl ])

refused_from : (p : Place) (e : Offence) → e ≡ no_name_at (letters_at p).end → is_name (letters_at p) ≡ false → NameRefused p e
refused_from p e is test = record {
  text = (letters_at p).value;
  letters = subst (λ (o : Offence). LongestRun is_alpha (skip 1 p) (letters_at p).value o.at) (sym is) (of_run is_alpha (skip 1 p) refl);
  lacks = subst (λ (o : Offence). ((letters_at p).value ≡ []) ⊎ (is_after_name (first o.at) ≡ false)) (sym is) (none_or_bad (letters_at p).value (is_after_name (first (letters_at p).end)) test);
  problem = ap (λ (o : Offence). o.problem) is;
}

refused_to : (p : Place) (e : Offence) → NameRefused p e → name p ≡ Err e
unfolding name
refused_to p e n =
    let r = run_of is_alpha (skip 1 p) n.text e.at n.letters in
    let g = letters_at p in
    let bad : is_name g ≡ false = rw (sym r.0, sym r.1) (bad_of n.text (is_after_name (first e.at)) n.lacks) in
    left (is_name g) (found g.value g.end) (refuse NO_NAME g.end) bad ∙ offence_is e NO_NAME g.end n.problem r.1

pub name_refused : NameIsRefused
unfolding name
name_refused p e = (
  λ h. (let t = failed (is_name (letters_at p)) (letters_at p) (no_name_at (letters_at p).end) e h in refused_from p e t.1 t.0),
  refused_to p e,
)

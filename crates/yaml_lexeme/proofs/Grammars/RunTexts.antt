-- A run is the longest text of characters that pass.
use Rattle.std.proofs.Common.{◌≡◌, ℕ, suc, ◌<◌, Bool, true, false, inl, inr, List, [], ◌∷◌, ◌++◌, length, take, drop, slice_index, refl, sym, ap, ◌∙◌, arith, subst, append_assoc}
use Rattle.std.specs.List.{list_all, prefix_len}
use Rattle.std.proofs.Math.Seq.{take-append_seam}
use Rattle.std.proofs.lemmas.Bool.{cases_Bool, and_parts}
use Rattle.std.proofs.lemmas.List.Folds.{length-prefix_len}
use Rattle.yaml_lexeme.specs.Grammar.{LongestRun}
use Rattle.yaml_lexeme.specs.Place.{Place, first, skip, run_len, run, after_run}
use Rattle.yaml_lexeme.specs.Reading.{Found}
use Rattle.yaml_lexeme.proofs.LongestLists.LongestParts.{split}
use Rattle.yaml_lexeme.proofs.Places.PlaceMoves.{rest_skip, length_one, is_there}
use Rattle.yaml_lexeme.proofs.Readers.FoldSeparators.{stopped}

run_all : (test : ℕ → Bool) (cs : List ℕ) → list_all test (take (prefix_len test cs) cs) ≡ true
run_all test [] = refl
run_all test (c ∷ cs) = elim (cases_Bool (test c)) [
  | inl is ↦
      let len : prefix_len test (c ∷ cs) ≡ suc (prefix_len test cs) = rw is (omega arith) in
      rw len (rw is (run_all test cs))
  | inr none ↦ rw none refl
]

-- a run is the longest,
pub of_run : (test : ℕ → Bool) (p : Place) → test 0 ≡ false → LongestRun test p (run test p) (after_run test p)
of_run test p none = record {
  joined = split (run_len test p) p;
  end = ap (λ (k : ℕ). skip k p) (sym (length-prefix_len test p.rest));
  all = run_all test p.rest;
  stops = stopped test p none;
}

prefix_is : (test : ℕ → Bool) (cs more : List ℕ) → list_all test cs ≡ true → test (slice_index more 0) ≡ false → prefix_len test (cs ++ more) ≡ length cs
prefix_is test [] [] all stops = refl
prefix_is test [] (c ∷ more) all stops = rw stops refl
prefix_is test (c ∷ cs) more all stops =
    let both = and_parts (test c) (list_all test cs) all in
    let more_is = prefix_is test cs more both.1 stops in
    rw both.0 (omega (arith, more_is))

-- and the longest text is the run.
pub run_of : (test : ℕ → Bool) (p : Place) (text : List ℕ) (q : Place) → LongestRun test p text q → (text ≡ run test p) × (q ≡ after_run test p)
run_of test p text q r =
    let len : run_len test p ≡ length text = ap (λ (cs : List ℕ). prefix_len test cs) r.joined ∙ prefix_is test text q.rest r.all r.stops in (
      sym (ap (λ (cs : List ℕ). take (run_len test p) cs) r.joined ∙ ap (λ (n : ℕ). take n (text ++ q.rest)) len ∙ take-append_seam text q.rest),
      r.end ∙ ap (λ (n : ℕ). skip n p) (sym len),
    )

front_of : (cs : List ℕ) → 0 < length cs → cs ≡ slice_index cs 0 ∷ drop 1 cs
front_of [] h = absurd (omega arith)
front_of (c ∷ cs) h = refl

-- the first character, and the others
pub front_is : (p : Place) → 0 < length p.rest → p.rest ≡ first p ∷ (skip 1 p).rest
front_is p h = front_of p.rest h ∙ ap (λ (cs : List ℕ). first p ∷ cs) (sym (rest_skip 1 p))

-- the first character is c
pub sign_is : (c : ℕ) (p : Place) → 0 < c → first p ≡ c → p.rest ≡ c ∷ (skip 1 p).rest
sign_is c p some e =
    let there : 0 < first p = omega (arith, e) in
    front_is p (is_there p 0 there) ∙ ap (λ (d : ℕ). d ∷ (skip 1 p).rest) e

-- a run, and the place after it
abbrev pub run_at : (ℕ → Bool) → Place → Found (List ℕ)
run_at test p = record { value = run test p; end = after_run test p }

-- is the longest text
pub run_is : (test : ℕ → Bool) (p : Place) (f : Found (List ℕ)) → LongestRun test p f.value f.end → run_at test p ≡ f
run_is test p f r =
    let t = run_of test p f.value f.end r in
    ap (λ (v : List ℕ). record { value = v; end = after_run test p }) (sym t.0) ∙ ap (λ (x : Place). record { value = f.value; end = x }) (sym t.1)

-- two texts, one after the other
pub joined_on : (xs ys zs before after : List ℕ) → xs ≡ before ++ ys → ys ≡ after ++ zs → xs ≡ (before ++ after) ++ zs
joined_on xs ys zs before after h k = h ∙ ap (λ (cs : List ℕ). before ++ cs) k ∙ sym (append_assoc before after zs)

some_text : (cs more : List ℕ) → 0 < length cs → 0 < length (cs ++ more)
some_text [] more h = absurd (omega arith)
some_text (c ∷ cs) more h = omega arith

-- a character, and a run after it
pub after_sign : (test : ℕ → Bool) (p : Place) (text : List ℕ) (q : Place) → LongestRun test (skip 1 p) text q → 0 < length text → p.rest ≡ first p ∷ text ++ q.rest
after_sign test p text q r some =
    let rest : 0 < length (skip 1 p).rest = subst (λ (cs : List ℕ). 0 < length cs) (sym r.joined) (some_text text q.rest some) in
    front_is p (omega (arith, length_one p, rest)) ∙ ap (λ (cs : List ℕ). first p ∷ cs) r.joined

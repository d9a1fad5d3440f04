-- A run within a line is many parts of a quoted body at once.
use Rattle.std.proofs.Common.{◌≡◌, ◌==◌, ℕ, zero, suc, ◌+◌, ◌-◌, ◌<◌, ◌≤◌, Bool, true, false, List, [], ◌∷◌, ◌++◌, length, get_or, take, drop, refl, sym, ap, ◌∙◌, subst, arith, append_assoc, take-add, inl, inr}
use Rattle.std.specs.Prelude.{not, ◌||◌}
use Rattle.std.specs.List.{prefix_len}
use Rattle.std.proofs.lemmas.Bool.{cases_Bool}
use Rattle.std.proofs.lemmas.Bool.Decides.{nat_tests}
use Rattle.std.proofs.lemmas.List.{append-nil, drop-drop, get_or-drop, length-drop}
use Rattle.std.proofs.lemmas.Str.{encodes-append}
use Rattle.std.proofs.lemmas.List.Sums.{prefix_len-le-length}
use Rattle.yaml_text.specs.declared.types.yaml_mark_t.{yaml_mark_t}
use Rattle.yaml_lexeme.proofs.Readers.QuotedBody.{at_char, at_space, body_shortens}
use Rattle.yaml_lexeme.proofs.Parts.PartByPart.{Reading, reads_more}
use Rattle.yaml_lexeme.proofs.Places.PlaceMoves.{skip_skip, skip_none, rest_skip}
use Rattle.yaml_lexeme.specs.Classes.{is_white}
use Rattle.yaml_lexeme.specs.Fold.{fold, breaks}
use Rattle.yaml_lexeme.specs.inside.Gives.{TakesPart}
use Rattle.yaml_lexeme.specs.Kind.{is_marker}
use Rattle.yaml_lexeme.specs.Place.{Place, first, skip}
use Rattle.yaml_lexeme.specs.inside.Moves.{skip_from, mark_after}
use Rattle.yaml_lexeme.specs.Quoted.{body_part, quote}
use Rattle.yaml_lexeme.specs.Reading.{Read, Part, part}
use Rattle.yaml_lexeme.specs.inside.Runs.{class_test, line_of}
use Rattle.yaml_text.specs.Chars.{utf8}
use Rattle.yaml_text.specs.Classes.{is_break, is_z}
use Rattle.yaml_lexeme.specs.declared.runs.class_t.{class_t}

-- The first k characters are within a line, and no run of blanks and breaks goes over their end.
pub record Whole (line : class_t) (k : ℕ) (cs : List ℕ) : Type 0 where
  pub within : k ≤ length cs
  pub each : (i : ℕ) → i < k → class_test line (get_or cs i 0) ≡ true
  pub whole : (i : ℕ) → i < k → i + prefix_len is_white (drop i cs) ≤ k

whole_after : (line : class_t) (a b k : ℕ) (cs : List ℕ) → a + b ≡ k → Whole line k cs → Whole line b (drop a cs)
whole_after line a b k cs e w = record {
  within = omega (arith, length-drop a cs, w.within);
  each = λ i h. ap (class_test line) (get_or-drop a cs i 0) ∙ w.each (a + i) (omega arith);
  whole = λ i h. let f : drop (a + i) cs ≡ drop i (drop a cs) = sym (drop-drop i a cs) in omega (arith, w.whole (a + i) (omega arith), ap (prefix_len is_white) f);
}

-- what quotes keep unchanged is no break
pub in_quotes : (single : Bool) (c : ℕ) → class_test (line_of single) c ≡ true → is_break c ≡ false
in_quotes true c h = grind (arith, nat_tests)
in_quotes false c h = grind (arith, nat_tests)

plain_char : (single : Bool) (c : ℕ) → class_test (line_of single) c ≡ true → (is_z c ≡ false) × ((c == quote single) ≡ false) × ((single || not (c == 0x5C)) ≡ true)
plain_char true c h = (grind (arith, nat_tests), grind (arith, nat_tests), refl)
plain_char false c h = (grind (arith, nat_tests), grind (arith, nat_tests), grind (arith, nat_tests))

column_from : (n : ℕ) (m : yaml_mark_t) (cs : List ℕ) → n ≤ length cs → ((i : ℕ) → i < n → is_break (get_or cs i 0) ≡ false) → (skip_from n m cs).mark.column ≡ m.column + n
column_from zero m cs l h = omega arith
column_from (suc n) m [] l h = absurd (omega arith)
column_from (suc n) m (c ∷ cs) l h =
    let b : is_break c ≡ false = h 0 (omega arith) in
    let m' = mark_after m c (get_or cs 0 0) in
    let one : m'.column ≡ m.column + 1 = rw b refl in
    let more : (skip_from n m' cs).mark.column ≡ m'.column + n = column_from n m' cs (omega arith) (λ i l. h (suc i) (omega arith)) in
    omega (arith, more, one)

pub column_after : (n : ℕ) (p : Place) → n ≤ length p.rest → ((i : ℕ) → i < n → is_break (get_or p.rest i 0) ≡ false) → (skip n p).mark.column ≡ p.mark.column + n
unfolding skip
column_after n p l h = column_from n p.mark p.rest l h

pub no_marker : (p : Place) → 0 < p.mark.column → is_marker p ≡ false
no_marker p h = let z : (p.mark.column == 0) ≡ false = grind (arith, nat_tests) in rw z refl

pub no_breaks : (n : ℕ) (cs : List ℕ) → ((i : ℕ) → i < n → is_break (get_or cs i 0) ≡ false) → breaks (take n cs) ≡ []
no_breaks zero cs h = refl
no_breaks (suc n) [] h = refl
no_breaks (suc n) (c ∷ cs) h = let b : is_break c ≡ false = h 0 (omega arith) in rw b (no_breaks n cs (λ i l. h (suc i) (omega arith)))

pub fold_none : (cs : List ℕ) → breaks cs ≡ [] → fold cs ≡ cs
unfolding fold
fold_none cs h = rw h refl

-- two stretches are one
two : (single : Bool) (p : Place) (out : List ℕ) (whole : Read (List ℕ)) (a b k : ℕ) → a + b ≡ k
    → Reading utf8 (body_part single) (skip b (skip a p)) ((out ++ utf8 (take a p.rest)) ++ utf8 (take b (skip a p).rest)) whole
    → Reading utf8 (body_part single) (skip k p) (out ++ utf8 (take k p.rest)) whole
two single p out whole a b k e r =
    let place : skip b (skip a p) ≡ skip k p = skip_skip a b p ∙ ap (λ n. skip n p) e in
    let t : take k p.rest ≡ take a p.rest ++ take b (drop a p.rest) = ap (λ n. take n p.rest) (sym e) ∙ take-add a b p.rest in
    let bytes : (out ++ utf8 (take a p.rest)) ++ utf8 (take b (skip a p).rest) ≡ out ++ utf8 (take k p.rest) =
    ap (λ (x : List ℕ). (out ++ utf8 (take a p.rest)) ++ utf8 (take b x)) (rest_skip a p)
    ∙ append_assoc out (utf8 (take a p.rest)) (utf8 (take b (drop a p.rest)))
    ∙ ap (λ (x : List ℕ). out ++ x) (sym (encodes-append (take a p.rest) (take b (drop a p.rest))) ∙ ap utf8 (sym t)) in
    subst (λ (x : Place). Reading utf8 (body_part single) x (out ++ utf8 (take k p.rest)) whole) place (subst (λ (x : List ℕ). Reading utf8 (body_part single) (skip b (skip a p)) x whole) bytes r)

takes_some : (read : Part (List ℕ)) (value old : List ℕ) (p q : Place) → read ≡ part value q → TakesPart utf8 read true old (old ++ utf8 value) p q
takes_some read value old p q e = rw e (refl, refl)

pub stop_le : (p : ℕ → Bool) (xs : List ℕ) (j : ℕ) → p (get_or xs j 0) ≡ false → prefix_len p xs ≤ j
stop_le p [] j h = omega arith
stop_le p (x ∷ xs) zero h = rw h (omega arith)
stop_le p (x ∷ xs) (suc j) h = elim (cases_Bool (p x)) [ inl t ↦ rw t (omega (arith, stop_le p xs j h)) | inr f ↦ rw f (omega arith) ]

pub first_one : (cs : List ℕ) → 0 < length cs → take 1 cs ≡ get_or cs 0 0 ∷ []
first_one [] h = absurd (omega arith)
first_one (c ∷ cs) h = refl

pub space_first : (cs : List ℕ) → is_white (get_or cs 0 0) ≡ true → 0 < length cs → 0 < prefix_len is_white cs
space_first [] s h = absurd (omega arith)
space_first (c ∷ cs) s h = let e : is_white c ≡ true = s in rw e (omega arith)

-- The bytes of a run may be appended to `out` as one piece.
pub parts_over : (single : Bool) (fuel k : ℕ) (p : Place) (out : List ℕ) (whole : Read (List ℕ)) → k ≤ fuel → Whole (line_of single) k p.rest
    → Reading utf8 (body_part single) p out whole → Reading utf8 (body_part single) (skip k p) (out ++ utf8 (take k p.rest)) whole
parts_over single fuel zero p out whole le w r =
    subst (λ (x : Place). Reading utf8 (body_part single) x (out ++ []) whole) (sym (skip_none p)) (subst (λ (x : List ℕ). Reading utf8 (body_part single) p x whole) (sym (append-nil out)) r)
parts_over single zero (suc k) p out whole le w r = absurd (omega arith)
parts_over single (suc fuel) (suc k) p out whole le w r =
    let on : class_test (line_of single) (first p) ≡ true = w.each 0 (omega arith) in
    let pc = plain_char single (first p) on in
    let some : 0 < length p.rest = omega (arith, w.within) in
    elim (cases_Bool (is_white (first p))) [
      | inl s ↦
          let n = prefix_len is_white p.rest in
          let le-n : n ≤ suc k = omega (arith, w.whole 0 (omega arith)) in
          let n-some : 0 < n = space_first p.rest s some in
          let clean : (i : ℕ) → i < n → is_break (get_or p.rest i 0) ≡ false = λ i h. in_quotes single (get_or p.rest i 0) (w.each i (omega arith)) in
          let col : (skip n p).mark.column ≡ p.mark.column + n = column_after n p (prefix_len-le-length is_white p.rest) clean in
          let unmark : is_marker (skip n p) ≡ false = no_marker (skip n p) (omega (arith, col)) in
          let value : fold (take n p.rest) ≡ take n p.rest = fold_none (take n p.rest) (no_breaks n p.rest clean) in
          let e : body_part single p ≡ part (take n p.rest) (skip n p) = at_space single p pc.0 s ∙ (rw (unmark, value) refl) in
          let next = (reads_more utf8 (body_part single) (body_shortens single) p (skip n p) out (out ++ utf8 (take n p.rest)) whole (takes_some (body_part single p) (take n p.rest) out p (skip n p) e) r).1 in
          let b = suc k - n in
          let sum : n + b ≡ suc k = omega arith in
          two single p out whole n b (suc k) sum (parts_over single fuel b (skip n p) (out ++ utf8 (take n p.rest)) whole (omega arith) (subst (λ (x : List ℕ). Whole (line_of single) b x) (sym (rest_skip n p)) (whole_after (line_of single) n b (suc k) p.rest sum w)) next)
      | inr s ↦
          let e : body_part single p ≡ part (take 1 p.rest) (skip 1 p) = at_char single p pc.0 s pc.1 pc.2 ∙ ap (λ (x : List ℕ). part x (skip 1 p)) (sym (first_one p.rest some)) in
          let next = (reads_more utf8 (body_part single) (body_shortens single) p (skip 1 p) out (out ++ utf8 (take 1 p.rest)) whole (takes_some (body_part single p) (take 1 p.rest) out p (skip 1 p) e) r).1 in
          let sum : 1 + k ≡ suc k = omega arith in
          two single p out whole 1 k (suc k) sum (parts_over single fuel k (skip 1 p) (out ++ utf8 (take 1 p.rest)) whole (omega arith) (subst (λ (x : List ℕ). Whole (line_of single) k x) (sym (rest_skip 1 p)) (whole_after (line_of single) 1 k (suc k) p.rest sum w)) next)
    ]

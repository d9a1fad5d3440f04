-- Escapes are a character, or the hex digits of one.
use Rattle.std.proofs.Common.{◌≡◌, ℕ, zero, suc, ◌<◌, ◌≤◌, Bool, true, false, not, ◌==◌, ◌&&◌, nat_lt, ◌⊎◌, inl, inr, if◌then◌else◌, List, [], ◌∷◌, ◌++◌, length, take, slice_index, Option, Some, None, Ok, Err, refl, sym, ap, ◌∙◌, subst, arith, eqb-true}
use Rattle.std.specs.List.{list_all, prefix_len}
use Rattle.std.specs.Str.Parse.{digits_value}
use Rattle.std.proofs.Math.Seq.{take-append_seam}
use Rattle.std.proofs.lemmas.Bool.{cases_Bool, cases_lt, and_parts, not-false, not_from_false, true≢false}
use Rattle.std.proofs.lemmas.Bool.Decides.{nat_tests}
use Rattle.std.proofs.lemmas.List.{length-take-le}
use Rattle.std.proofs.lemmas.List.Folds.{length-prefix_len}
use Rattle.std.proofs.lemmas.List.Sums.{prefix_len-le-length}
use Rattle.yaml_text.specs.Classes.{is_hex}
use Rattle.yaml_lexeme.specs.declared.problem.yaml_problem_t.TheVariants.{UNKNOWN_ESCAPE, NO_HEX_DIGIT, NO_SCALAR_VALUE}
use Rattle.yaml_lexeme.specs.Escape.{backslash, simple_escape, hex_len, hex_escape, escape}
use Rattle.yaml_lexeme.specs.inside.CommonEscapes.{simple_at}
use Rattle.yaml_text.specs.Utf8.{is_scalar}
use Rattle.yaml_lexeme.specs.EscapeGrammar.{HexDigits, SimpleEscape, HexEscape, EscapeIsParts, EscapeRefused, EscapeIsRefused}
use Rattle.yaml_lexeme.specs.EscapeGrammar.EscapeRefused.{unknown, few_digits, no_character}
use Rattle.yaml_lexeme.specs.Place.{Place, first, peek, skip, run_len}
use Rattle.yaml_lexeme.specs.Reading.{Offence, Found, Read, found, refuse}
use Rattle.yaml_lexeme.proofs.Grammars.RunTexts.{of_run, run_of, sign_is, run_at}
use Rattle.yaml_lexeme.proofs.Grammars.ReadingSteps.{unless_ok, unless_err, taken, left, not_so, offence_is}
use Rattle.yaml_lexeme.proofs.LongestLists.LongestParts.{split}
use Rattle.yaml_lexeme.proofs.Parts.ReadResults.{both}
use Rattle.yaml_lexeme.proofs.Places.PlaceMoves.{skip_skip, first_on}

-- HEX DIGITS

first_pass : (test : ℕ → Bool) (n : ℕ) (cs : List ℕ) → n ≤ prefix_len test cs → list_all test (take n cs) ≡ true
first_pass test zero cs h = refl
first_pass test (suc n) [] h = absurd (omega arith)
first_pass test (suc n) (c ∷ cs) h = elim (cases_Bool (test c)) [
  | inl is ↦
      let long : prefix_len test (c ∷ cs) ≡ suc (prefix_len test cs) = rw is (omega arith) in
      let more = first_pass test n cs (omega (arith, h, long)) in
      rw is more
  | inr none ↦ (let short : prefix_len test (c ∷ cs) ≡ 0 = rw none refl in absurd (omega (arith, h, short)))
]

all_pass : (test : ℕ → Bool) (n : ℕ) (cs : List ℕ) → length (take n cs) ≡ n → list_all test (take n cs) ≡ true → n ≤ prefix_len test cs
all_pass test zero cs len all = omega arith
all_pass test (suc n) [] len all = absurd (omega (arith, len))
all_pass test (suc n) (c ∷ cs) len all =
    let t = and_parts (test c) (list_all test (take n cs)) all in
    let long : prefix_len test (c ∷ cs) ≡ suc (prefix_len test cs) = (let is = t.0 in rw is (omega arith)) in
    let more = all_pass test n cs (omega (arith, len)) t.1 in
    omega (arith, long, more)

abbrev enough : ℕ → Place → Bool
enough n q = length (take n q.rest) == n && list_all is_hex (take n q.rest)

enough_is : (n : ℕ) (q : Place) → enough n q ≡ true → HexDigits q n (take n q.rest)
enough_is n q h =
    let t = and_parts (length (take n q.rest) == n) (list_all is_hex (take n q.rest)) h in
    record { joined = split n q; count = eqb-true (length (take n q.rest)) n t.0; all = t.1 }

both_true : (a b : Bool) → a ≡ true → b ≡ true → (a && b) ≡ true
both_true a b h k = rw (h, k) refl

digits_are : (n : ℕ) (q : Place) (digits : List ℕ) → HexDigits q n digits → take n q.rest ≡ digits
digits_are n q digits d =
    ap (λ (cs : List ℕ). take n cs) d.joined ∙ ap (λ (k : ℕ). take k (digits ++ (skip n q).rest)) (sym d.count) ∙ take-append_seam digits (skip n q).rest

is_enough : (n : ℕ) (q : Place) (digits : List ℕ) → HexDigits q n digits → enough n q ≡ true
is_enough n q digits d =
    let same = digits_are n q digits d in
    let count : (length (take n q.rest) == n) ≡ true = (let len = ap (λ (cs : List ℕ). length cs) same ∙ d.count in rw len (same_number n)) in
    both_true (length (take n q.rest) == n) (list_all is_hex (take n q.rest)) count (ap (λ (cs : List ℕ). list_all is_hex cs) same ∙ d.all)
  where
    same_number : (k : ℕ) → (k == k) ≡ true
    same_number k = grind (arith, nat_tests)

few_of : (n : ℕ) (q : Place) → enough n q ≡ false → run_len is_hex q < n
few_of n q h = elim (cases_lt (run_len is_hex q) n) [
  | inl less ↦ less
  | inr more ↦
      let within : n ≤ length q.rest = omega (arith, more, prefix_len-le-length is_hex q.rest) in
      let len = length-take-le n q.rest within in
      let count : (length (take n q.rest) == n) ≡ true = grind (arith, nat_tests) in
      let all = first_pass is_hex n q.rest (omega (arith, more)) in
      absurd (true≢false (sym (both_true (length (take n q.rest) == n) (list_all is_hex (take n q.rest)) count all) ∙ h))
]

not_enough : (n : ℕ) (q : Place) → run_len is_hex q < n → enough n q ≡ false
not_enough n q less = elim (cases_Bool (enough n q)) [
  | inl is ↦ (let d = enough_is n q is in absurd (omega (arith, less, all_pass is_hex n q.rest d.count d.all)))
  | inr none ↦ none
]

abbrev if_scalar : ℕ → Place → Read ℕ
if_scalar n q = if not (is_scalar (digits_value 16 (take n q.rest))) then refuse NO_SCALAR_VALUE q else found (digits_value 16 (take n q.rest)) (skip n q)

hex_is : (n : ℕ) (q : Place) → hex_escape n q ≡ (if not (enough n q) then refuse NO_HEX_DIGIT q else if_scalar n q)
unfolding hex_escape
hex_is n q = refl

so : (b : Bool) → b ≡ true → not b ≡ false
so b h = rw h refl

-- ESCAPES

abbrev hex_at : Place → Read ℕ
hex_at p = hex_escape (hex_len (peek p 1)) (skip 2 p)

abbrev one_at : Place → Read ℕ
one_at p = simple_at (simple_escape (peek p 1)) p

escape_is : (p : Place) → escape p ≡ (if nat_lt 0 (hex_len (peek p 1)) then hex_at p else one_at p)
unfolding escape
escape_is p = refl

at_hex : (p : Place) → 0 < hex_len (peek p 1) → escape p ≡ hex_at p
at_hex p some = let test : nat_lt 0 (hex_len (peek p 1)) ≡ true = grind (arith, nat_tests) in escape_is p ∙ taken (nat_lt 0 (hex_len (peek p 1))) (hex_at p) (one_at p) test

at_one : (p : Place) → hex_len (peek p 1) ≡ 0 → escape p ≡ one_at p
at_one p none = let test : nat_lt 0 (hex_len (peek p 1)) ≡ false = rw none refl in escape_is p ∙ left (nat_lt 0 (hex_len (peek p 1))) (hex_at p) (one_at p) test

-- the backslash and the character after it
two_are : (p : Place) → first p ≡ backslash → 0 < peek p 1 → p.rest ≡ backslash ∷ peek p 1 ∷ (skip 2 p).rest
two_are p sign some =
    sign_is backslash p (omega arith) sign
    ∙ ap (λ (cs : List ℕ). backslash ∷ cs) (sign_is (peek p 1) (skip 1 p) some (first_on 1 p) ∙ ap (λ (x : Place). peek p 1 ∷ x.rest) (skip_skip 1 1 p))

simple_some : (c v : ℕ) → simple_escape c ≡ Some v → 0 < c
simple_some zero v h = absurd cc
simple_some (suc c) v h = omega arith

hex_some : (c : ℕ) → 0 < hex_len c → 0 < c
hex_some zero h = absurd (omega (arith, h))
hex_some (suc c) h = omega arith

one_from : (p : Place) (f : Found ℕ) (o : Option ℕ) → simple_at o p ≡ Ok f → (o ≡ Some f.value) × (f.end ≡ skip 2 p)
one_from p f None h = absurd cc
one_from p f (Some c) h = let is : f ≡ record { value = c; end = skip 2 p } = cc in (ap (λ (x : Found ℕ). Some x.value) (sym is), ap (λ (x : Found ℕ). x.end) is)

simple_from : (p : Place) (f : Found ℕ) → first p ≡ backslash → one_at p ≡ Ok f → SimpleEscape p f
simple_from p f sign h =
    let t = one_from p f (simple_escape (peek p 1)) h in
    record {
      sign = peek p 1;
      text = two_are p sign (simple_some (peek p 1) f.value t.0) ∙ ap (λ (x : Place). backslash ∷ peek p 1 ∷ x.rest) (sym t.1);
      gives = t.0;
      end = t.1;
    }

hex_from : (p : Place) (f : Found ℕ) → first p ≡ backslash → 0 < hex_len (peek p 1) → hex_at p ≡ Ok f → HexEscape p f
hex_from p f sign some h =
    let n = hex_len (peek p 1) in
    let q = skip 2 p in
    let s = unless_ok (not (enough n q)) (if_scalar n q) _ f (sym (hex_is n q) ∙ h) in
    let value = digits_value 16 (take n q.rest) in
    let t = unless_ok (not (is_scalar value)) (found value (skip n q)) _ f s.1 in
    let same : found value (skip n q) ≡ Ok f = t.1 in
    let is : f ≡ record { value = value; end = skip n q } = cc in
    let d = enough_is n q (not-false (enough n q) s.0) in
    let end : f.end ≡ skip n q = ap (λ (x : Found ℕ). x.end) is in
    record {
      sign = peek p 1;
      digits = take n q.rest;
      text = two_are p sign (hex_some (peek p 1) some) ∙ ap (λ (cs : List ℕ). backslash ∷ peek p 1 ∷ cs) (d.joined ∙ ap (λ (x : Place). take n q.rest ++ x.rest) (sym end));
      some = some;
      hex = d;
      value = ap (λ (x : Found ℕ). x.value) is;
      scalar = subst (λ (x : Found ℕ). is_scalar x.value ≡ true) (sym is) (not-false (is_scalar value) t.0);
      end = end;
    }

parts_from : (p : Place) (f : Found ℕ) → first p ≡ backslash → escape p ≡ Ok f → SimpleEscape p f ⊎ HexEscape p f
parts_from p f sign h = elim (cases_lt 0 (hex_len (peek p 1))) [
  | inl some ↦ inr (hex_from p f sign some (sym (at_hex p some) ∙ h))
  | inr none ↦ inl (simple_from p f sign (sym (at_one p (omega (arith, none))) ∙ h))
]

-- what stands for one character begins no hex digits
no_simple : (c d v : ℕ) → c ≡ d → simple_escape d ≡ None → simple_escape c ≡ Some v → ⊥
no_simple c d v same none h = absurd (let never = sym none ∙ ap simple_escape (sym same) ∙ h in cc)

simple_short : (c v : ℕ) → simple_escape c ≡ Some v → hex_len c ≡ 0
simple_short c v h = elim (cases_Bool (c == 0x78)) [
  | inl x ↦ absurd (no_simple c 0x78 v (eqb-true c 0x78 x) refl h)
  | inr a ↦ elim (cases_Bool (c == 0x75)) [
    | inl u ↦ absurd (no_simple c 0x75 v (eqb-true c 0x75 u) refl h)
    | inr b ↦ elim (cases_Bool (c == 0x55)) [ inl w ↦ absurd (no_simple c 0x55 v (eqb-true c 0x55 w) refl h) | inr d ↦ rw (a, b, d) refl ]
  ]
]

parts_to : (p : Place) (f : Found ℕ) → SimpleEscape p f ⊎ HexEscape p f → escape p ≡ Ok f
parts_to p f (inl s) =
    let there : peek p 1 ≡ s.sign = ap (λ (cs : List ℕ). slice_index cs 1) s.text in
    let gives : simple_escape (peek p 1) ≡ Some f.value = ap simple_escape there ∙ s.gives in
    at_one p (ap hex_len there ∙ simple_short s.sign f.value s.gives) ∙ ap (λ (o : Option ℕ). simple_at o p) gives ∙ both f f.value (skip 2 p) refl s.end
parts_to p f (inr s) =
    let there : s.sign ≡ peek p 1 = sym (ap (λ (cs : List ℕ). slice_index cs 1) s.text) in
    let n = hex_len (peek p 1) in
    let q = skip 2 p in
    let some : 0 < n = subst (λ (c : ℕ). 0 < hex_len c) there s.some in
    let d = subst (λ (c : ℕ). HexDigits q (hex_len c) s.digits) there s.hex in
    let end : f.end ≡ skip n q = s.end ∙ ap (λ (c : ℕ). skip (hex_len c) q) there in
    let same = digits_are n q s.digits d in
    let value : f.value ≡ digits_value 16 (take n q.rest) = s.value ∙ ap (λ (cs : List ℕ). digits_value 16 cs) (sym same) in
    let scalar : is_scalar (digits_value 16 (take n q.rest)) ≡ true = subst (λ (v : ℕ). is_scalar v ≡ true) value s.scalar in
    at_hex p some ∙ hex_is n q ∙ left (not (enough n q)) _ (if_scalar n q) (so (enough n q) (is_enough n q s.digits d))
    ∙ left (not (is_scalar (digits_value 16 (take n q.rest)))) _ _ (so (is_scalar (digits_value 16 (take n q.rest))) scalar) ∙ both f (digits_value 16 (take n q.rest)) (skip n q) value end

pub escape_parts : EscapeIsParts
escape_parts p f sign = (parts_from p f sign, parts_to p f)

-- ESCAPES THAT ARE REFUSED

one_refused : (p : Place) (e : Offence) (o : Option ℕ) → simple_at o p ≡ Err e → (o ≡ None) × (e.problem ≡ UNKNOWN_ESCAPE) × (e.at ≡ p)
one_refused p e None h = let is : e ≡ record { problem = UNKNOWN_ESCAPE; at = p } = cc in (refl, ap (λ (x : Offence). x.problem) is, ap (λ (x : Offence). x.at) is)
one_refused p e (Some c) h = absurd cc

hex_refused : (p : Place) (e : Offence) → 0 < hex_len (peek p 1) → hex_at p ≡ Err e → EscapeRefused p e
hex_refused p e some h =
    let n = hex_len (peek p 1) in
    let q = skip 2 p in
    elim (unless_err (not (enough n q)) (if_scalar n q) _ e (sym (hex_is n q) ∙ h)) [
      | inl s ↦
          let few = few_of n q (not_so (enough n q) s.0) in
          let len = length-prefix_len is_hex q.rest in
          few_digits (run_at is_hex q) (of_run is_hex q refl) (omega (arith, few, len)) (ap (λ (o : Offence). o.problem) s.1) (ap (λ (o : Offence). o.at) s.1)
      | inr s ↦
          let value = digits_value 16 (take n q.rest) in
          elim (unless_err (not (is_scalar value)) (found value (skip n q)) _ e s.1) [
            | inl t ↦
                no_character (take n q.rest) some (enough_is n q (not-false (enough n q) s.0)) (not_so (is_scalar value) t.0)
                (ap (λ (o : Offence). o.problem) t.1) (ap (λ (o : Offence). o.at) t.1)
            | inr t ↦ absurd (let never = t.1 in cc)
          ]
    ]

refused_from : (p : Place) (e : Offence) → escape p ≡ Err e → EscapeRefused p e
refused_from p e h = elim (cases_lt 0 (hex_len (peek p 1))) [
  | inl some ↦ hex_refused p e some (sym (at_hex p some) ∙ h)
  | inr none ↦
      let short : hex_len (peek p 1) ≡ 0 = omega (arith, none) in
      let t = one_refused p e (simple_escape (peek p 1)) (sym (at_one p short) ∙ h) in
      unknown short t.0 t.1 t.2
]

refused_to : (p : Place) (e : Offence) → EscapeRefused p e → escape p ≡ Err e
refused_to p e (unknown short none problem at) =
    at_one p short ∙ ap (λ (o : Option ℕ). simple_at o p) none ∙ offence_is e UNKNOWN_ESCAPE p problem at
refused_to p e (few_digits g l few problem at) =
    let n = hex_len (peek p 1) in
    let q = skip 2 p in
    let len = ap (λ (cs : List ℕ). length cs) (run_of is_hex q g.value g.end l).0 ∙ length-prefix_len is_hex q.rest in
    let less : run_len is_hex q < n = omega (arith, few, len) in
    at_hex p (omega (arith, few)) ∙ hex_is n q ∙ taken (not (enough n q)) _ (if_scalar n q) (not_from_false (enough n q) (not_enough n q less)) ∙ offence_is e NO_HEX_DIGIT q problem at
refused_to p e (no_character digits some d none problem at) =
    let n = hex_len (peek p 1) in
    let q = skip 2 p in
    let same = digits_are n q digits d in
    let bad : is_scalar (digits_value 16 (take n q.rest)) ≡ false = ap (λ (cs : List ℕ). is_scalar (digits_value 16 cs)) same ∙ none in
    at_hex p some ∙ hex_is n q ∙ left (not (enough n q)) _ (if_scalar n q) (so (enough n q) (is_enough n q digits d))
    ∙ taken (not (is_scalar (digits_value 16 (take n q.rest)))) _ _ (not_from_false (is_scalar (digits_value 16 (take n q.rest))) bad) ∙ offence_is e NO_SCALAR_VALUE q problem at

pub escape_refused : EscapeIsRefused
escape_refused p e = (refused_from p e, refused_to p e)

-- Bytes that are characters by themselves make the front grow by as many characters.
use Rattle.std.proofs.Common.{◌≡◌, ℕ, suc, ◌+◌, ◌<◌, ◌≤◌, true, List, [], ◌∷◌, ◌++◌, length, take, drop, refl, sym, ap, ◌∙◌, subst, append_assoc, arith, inl, inr}
use Rattle.std.specs.List.{prefix_len}
use Rattle.std.specs.Str.{chars}
use Rattle.std.proofs.lemmas.Bool.{cases_Bool}
use Rattle.std.proofs.lemmas.Bool.Decides.{nat_tests}
use Rattle.std.proofs.lemmas.List.{take-append-drop, take_at, length-append, length-take, length-drop}
use Rattle.std.proofs.lemmas.List.Sums.{prefix_len-le-length}
use Rattle.std.proofs.lemmas.Str.{encodes-append, encode_ascii}
use Rattle.yaml_text.specs.Chars.{is_char, utf8}
use Rattle.yaml_text.specs.TextBytes.{AreChars, IsText}
use Rattle.yaml_text.specs.inside.Singles.{is_single}
use Rattle.yaml_text.proofs.Decodings.DecodeFronts.{IsText-nil, IsText-utf8, AreChars-append}

pub single_char : (b : ℕ) → is_single b ≡ true → is_char b ≡ true
unfolding is_char
single_char b h = grind (arith, nat_tests)

pub single_low : (b : ℕ) → is_single b ≡ true → b < 128
single_low b h = grind (arith, nat_tests)

record Own (xs : List ℕ) : Type 0 where
  each : AreChars xs
  spelled : utf8 xs ≡ xs

own_front : (xs : List ℕ) → Own (take (prefix_len is_single xs) xs)
own_front [] = record { each = tt; spelled = refl }
own_front (x ∷ xs) =
    elim (cases_Bool (is_single x)) [
      | inl t ↦
          let o = own_front xs in
          let n = prefix_len is_single xs in
          let one : 1 + n ≡ suc n = omega arith in
          let whole : Own (x ∷ take n xs) = record { each = (single_char x t, o.each); spelled = ap (λ (ys : List ℕ). ys ++ utf8 (take n xs)) (encode_ascii x (single_low x t)) ∙ ap (λ (ys : List ℕ). x ∷ ys) o.spelled } in
          rw (t, one) whole
      | inr f ↦ let none : Own [] = record { each = tt; spelled = refl } in rw f none
    ]

IsText-append : (a b : List ℕ) → IsText a → Own b → IsText (a ++ b)
IsText-append a b t o =
    let e : utf8 (chars a ++ b) ≡ a ++ b = encodes-append (chars a) b ∙ ap (λ (x : List ℕ). x ++ utf8 b) t.spelled ∙ ap (λ (x : List ℕ). a ++ x) o.spelled in
    subst IsText e (IsText-utf8 (chars a ++ b) (AreChars-append (chars a) b t.each o.each))

-- the front with the characters of one byte after the place at
pub singles_grow : (bytes : List ℕ) (at n : ℕ) → at ≤ length bytes → IsText (take at bytes) → n ≡ prefix_len is_single (drop at bytes) → (at + n ≤ length bytes) × IsText (take (at + n) bytes)
singles_grow bytes at n le t e =
    let d = drop at bytes in
    let bound : n ≤ length d = omega (arith, e, prefix_len-le-length is_single d) in
    let front = take at bytes ++ take n d in
    let parts : bytes ≡ front ++ drop n d = sym (take-append-drop at bytes) ∙ ap (λ (x : List ℕ). take at bytes ++ x) (sym (take-append-drop n d)) ∙ simp append_assoc in
    let len : length front ≡ at + n = omega (arith, length-append (take at bytes) (take n d), length-take at bytes, length-take n d) in
    let is : front ≡ take (at + n) bytes = sym (take_at front (drop n d) (at + n) len) ∙ ap (λ (x : List ℕ). take (at + n) x) (sym parts) in
    (omega (arith, bound, length-drop at bytes), subst IsText is (IsText-append (take at bytes) (take n d) t (subst (λ k. Own (take k d)) (sym e) (own_front d))))

pub single_front : (bytes : List ℕ) (n : ℕ) → n ≡ prefix_len is_single bytes → IsText (take n bytes)
single_front bytes n e =
    let z : 0 + n ≡ n = omega arith in
    subst (λ k. IsText (take k bytes)) z (singles_grow bytes 0 n (omega arith) IsText-nil e).1

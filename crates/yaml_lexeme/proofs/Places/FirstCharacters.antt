-- What the first bytes of a text say of its first character.
use Rattle.std.proofs.Common.{◌≡◌, ℕ, ◌+◌, ◌<◌, ◌≤◌, ◌⊎◌, inl, inr, List, [], ◌∷◌, ◌++◌, length, get_or, drop, min, refl, sym, ap, ◌∙◌, subst, arith}
use Rattle.std.specs.Str.{chars}
use Rattle.std.specs.Char.{len_utf8, InScalarRange}
use Rattle.std.proofs.lemmas.Bool.{cases_lt}
use Rattle.std.proofs.lemmas.Bool.Decides.{nat_tests}
use Rattle.std.proofs.lemmas.List.{drop_at, length-append}
use Rattle.std.proofs.lemmas.Str.{length-encode, len_utf8_bounds}
use lib.Utf8.{encode}
use Rattle.yaml_text.specs.Chars.{utf8}
use Rattle.yaml_text.specs.TextBytes.{AreChars, IsText}
use Rattle.yaml_text.specs.Utf8.{width_of, value_of}
use Rattle.yaml_text.proofs.Characters.CharRanges.{char_range}
use Rattle.yaml_text.proofs.Characters.Utf8Spelling.{stands}
use Rattle.yaml_text.proofs.Decodings.DecodeFronts.{chars-utf8, IsText-utf8}
use Rattle.yaml_text.proofs.Characters.ClassTables.{Leads, leads, low_same}

-- c is the first of the characters that the bytes spell
pub record Head (bytes : List ℕ) (c : ℕ) : Type 0 where
  pub some : 0 < length (chars bytes)
  pub width : width_of (get_or bytes 0 0) ≡ len_utf8 c
  pub within : len_utf8 c ≤ length bytes
  pub value : value_of (len_utf8 c) bytes ≡ c
  pub positive : 0 < c
  pub scalar : (c < 0xD800) ⊎ ((0xE000 ≤ c) × (c < 0x110000))
  pub text : IsText (drop (len_utf8 c) bytes)
  pub rest : chars (drop (len_utf8 c) bytes) ≡ drop 1 (chars bytes)

bytes_of : (bytes cs : List ℕ) → IsText bytes → chars bytes ≡ cs → bytes ≡ utf8 cs
bytes_of bytes cs t e = sym t.spelled ∙ ap utf8 e

head_from : (bytes cs : List ℕ) → chars bytes ≡ cs → IsText bytes → 0 < length bytes → Head bytes (get_or cs 0 0)
head_from bytes [] e t some = absurd (omega (arith, ap length (bytes_of bytes [] t e)))
head_from bytes (c ∷ cs) e t some =
    let each : AreChars (c ∷ cs) = subst AreChars e t.each in
    let b : bytes ≡ encode c ++ utf8 cs = bytes_of bytes (c ∷ cs) t e in
    let r = char_range c each.0 in
    let s = stands c (utf8 cs) (omega (arith, r.1)) in
    let dr : drop (len_utf8 c) bytes ≡ utf8 cs = ap (λ (x : List ℕ). drop (len_utf8 c) x) b ∙ drop_at (encode c) (utf8 cs) (len_utf8 c) (length-encode c) in
    record {
      some = rw e (omega arith);
      width = ap (λ (x : List ℕ). width_of (get_or x 0 0)) b ∙ s.width;
      within = omega (arith, length-encode c, ap length b, length-append (encode c) (utf8 cs));
      value = ap (λ (x : List ℕ). value_of (len_utf8 c) x) b ∙ s.value;
      positive = r.0;
      scalar = r.1;
      text = subst IsText (sym dr) (IsText-utf8 cs each.1);
      rest = ap chars dr ∙ chars-utf8 cs each.1 ∙ ap (λ (x : List ℕ). drop 1 x) (sym e);
    }

pub head : (bytes : List ℕ) → IsText bytes → 0 < length bytes → Head bytes (get_or (chars bytes) 0 0)
head bytes t some = head_from bytes (chars bytes) refl t some

-- a byte of ASCII is its character
pub ascii_head : (bytes : List ℕ) → IsText bytes → get_or bytes 0 0 < 128 → get_or bytes 0 0 ≡ get_or (chars bytes) 0 0
ascii_head bytes t low =
    let h : Leads (get_or (chars bytes) 0 0) (get_or bytes 0 0) (get_or bytes 1 0) (get_or bytes 2 0) =
    subst (λ (x : List ℕ). Leads (get_or (chars bytes) 0 0) (get_or x 0 0) (get_or x 1 0) (get_or x 2 0)) t.spelled (leads (chars bytes) t.each) in
    low_same _ _ _ _ h low

no_bytes : (bytes cs : List ℕ) → chars bytes ≡ cs → IsText bytes → length bytes ≤ 0 → cs ≡ []
no_bytes bytes [] e t none = refl
no_bytes bytes (c ∷ cs) e t none = absurd (omega (arith, ap length (bytes_of bytes (c ∷ cs) t e), length-append (encode c) (utf8 cs), length-encode c, len_utf8_bounds c))

-- no bytes are no characters
pub none_left : (bytes : List ℕ) → IsText bytes → length bytes ≤ 0 → chars bytes ≡ []
none_left bytes t none = no_bytes bytes (chars bytes) refl t none

-- if there are characters, there are bytes
pub some_bytes : (bytes : List ℕ) → IsText bytes → 0 < length (chars bytes) → 0 < length bytes
some_bytes bytes t h = elim (cases_lt 0 (length bytes)) [ inl some ↦ some | inr none ↦ absurd (omega (arith, h, ap length (none_left bytes t none))) ]

-- the bytes after the first character
pub record Past (bytes : List ℕ) (w : ℕ) : Type 0 where
  pub text : IsText (drop w bytes)
  pub rest : chars (drop w bytes) ≡ drop 1 (chars bytes)

drop_none : (bytes : List ℕ) (w : ℕ) → w ≡ 0 → drop w bytes ≡ bytes
drop_none bytes w e = rw e refl

pub past : (bytes : List ℕ) (w : ℕ) → IsText bytes → w ≡ min (width_of (get_or bytes 0 0)) (length bytes) → Past bytes w
past bytes w t e =
    elim (cases_lt 0 (length bytes)) [
      | inl some ↦
          let h = head bytes t some in
          let k : len_utf8 (get_or (chars bytes) 0 0) ≡ w = omega (arith, h.width, h.within, e) in
          record { text = subst (λ (n : ℕ). IsText (drop n bytes)) k h.text; rest = ap (λ (n : ℕ). chars (drop n bytes)) (sym k) ∙ h.rest }
      | inr none ↦
          let z : w ≡ 0 = omega (arith, e) in
          let n = none_left bytes t none in
          record { text = subst IsText (sym (drop_none bytes w z)) t; rest = ap chars (drop_none bytes w z) ∙ n ∙ ap (λ (x : List ℕ). drop 1 x) (sym n) }
    ]

-- the code that the bytes of the first character spell
pub code_is : (bytes : List ℕ) (w v : ℕ) → IsText bytes → 0 < length bytes → w ≡ width_of (get_or bytes 0 0) → v ≡ value_of w bytes → v ≡ get_or (chars bytes) 0 0
code_is bytes w v t some w-is v-is = let h = head bytes t some in v-is ∙ ap (λ (n : ℕ). value_of n bytes) (w-is ∙ h.width) ∙ h.value

pub scalar_range : (c : ℕ) → (c < 0xD800) ⊎ ((0xE000 ≤ c) × (c < 0x110000)) → InScalarRange c
scalar_range c (inl l) = inl l
scalar_range c (inr h) = inr (h.0, omega (arith, h.1))

shrinks_from : (bytes left cs : List ℕ) → chars bytes ≡ cs → IsText bytes → IsText left → chars left ≡ drop 1 cs → 0 < length bytes → length left + len_utf8 (get_or cs 0 0) ≡ length bytes
shrinks_from bytes left [] e t u d some = absurd (omega (arith, ap length (bytes_of bytes [] t e)))
shrinks_from bytes left (c ∷ cs) e t u d some = omega (arith, ap length (bytes_of bytes (c ∷ cs) t e), ap length (bytes_of left cs u d), length-append (encode c) (utf8 cs), length-encode c)

-- how many bytes are left after the first character
pub shrinks : (bytes left : List ℕ) → IsText bytes → IsText left → chars left ≡ drop 1 (chars bytes) → 0 < length bytes → length left + len_utf8 (get_or (chars bytes) 0 0) ≡ length bytes
shrinks bytes left t u d some = shrinks_from bytes left (chars bytes) refl t u d some

one_byte : (b : ℕ) → b < 128 → width_of b ≡ 1
one_byte b h = grind (arith, nat_tests)

-- after an ASCII byte
pub past_ascii : (bytes : List ℕ) → IsText bytes → 0 < length bytes → get_or bytes 0 0 < 128 → Past bytes 1
past_ascii bytes t some low = past bytes 1 t (omega (arith, one_byte (get_or bytes 0 0) low))

pub none_past : (bytes : List ℕ) → IsText bytes → length bytes ≤ 0 → chars bytes ≡ drop 1 (chars bytes)
none_past bytes t none = let n = none_left bytes t none in n ∙ ap (λ (x : List ℕ). drop 1 x) (sym n)

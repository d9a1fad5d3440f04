-- A front that grows by a character is a front.
use Rattle.std.proofs.Common.{◌≡◌, ℕ, ◌+◌, ◌<◌, ◌≤◌, true, List, [], ◌∷◌, ◌++◌, length, take, drop, refl, sym, ap, ◌∙◌, subst, append_assoc, arith, ◌⊎◌}
use Rattle.std.specs.Str.{chars}
use Rattle.std.specs.Char.{len_utf8}
use Rattle.std.proofs.lemmas.Bool.{and_from}
use Rattle.std.proofs.lemmas.Bool.Decides.{nat_tests}
use Rattle.std.proofs.Math.Seq.{take-add}
use Rattle.std.proofs.lemmas.List.{append-nil, take-append-drop, take_at, length-append, length-take, length-drop}
use Rattle.std.proofs.lemmas.Str.{chars-encodes, encodes-append, length-encode, len_utf8_bounds}
use lib.Utf8.{encode, encodes, scalar, scalars}
use Rattle.yaml_text.specs.declared.types.yaml_encoding_t.TheVariants.{YAML_UTF8_ENCODING}
use Rattle.yaml_text.specs.Chars.{is_char, utf8}
use Rattle.yaml_text.specs.TextBytes.{IsChar, AreChars, IsText}
use Rattle.yaml_text.specs.Decoding.{Begins, BeginsWithNone}
use Rattle.yaml_text.proofs.Characters.CharRanges.{char_range}

scalar_range : (c : ℕ) → (c < 0xD800) ⊎ ((0xE000 ≤ c) × (c < 0x110000)) → scalar c ≡ true
scalar_range c h = grind (arith, nat_tests)

pub scalar-IsChar : (c : ℕ) → is_char c ≡ true → scalar c ≡ true
scalar-IsChar c e = let r = char_range c e in scalar_range c r.1

pub scalars-AreChars : (cs : List ℕ) → AreChars cs → scalars cs ≡ true
scalars-AreChars [] h = refl
scalars-AreChars (c ∷ cs) h = and_from _ _ (scalar-IsChar c h.0) (scalars-AreChars cs h.1)

pub chars-utf8 : (cs : List ℕ) → AreChars cs → chars (utf8 cs) ≡ cs
chars-utf8 cs h = chars-encodes cs (scalars-AreChars cs h)

pub IsText-utf8 : (cs : List ℕ) → AreChars cs → IsText (utf8 cs)
IsText-utf8 cs h = record { each = rw (chars-utf8 cs h) h; spelled = ap utf8 (chars-utf8 cs h) }

pub AreChars-append : (xs ys : List ℕ) → AreChars xs → AreChars ys → AreChars (xs ++ ys)
AreChars-append [] ys h k = k
AreChars-append (x ∷ xs) ys h k = (h.0, AreChars-append xs ys h.1 k)

pub IsText-nil : IsText []
IsText-nil = IsText-utf8 [] tt

pub IsText-push : (bytes : List ℕ) (c : ℕ) → IsText bytes → IsChar c → IsText (bytes ++ encode c)
IsText-push bytes c t ok =
    let e : utf8 (chars bytes ++ c ∷ []) ≡ bytes ++ encode c = encodes-append (chars bytes) (c ∷ []) ∙ ap (λ (x : List ℕ). encodes (chars bytes) ++ x) (append-nil (encode c)) ∙ ap (λ (x : List ℕ). x ++ encode c) t.spelled in
    subst IsText e (IsText-utf8 (chars bytes ++ c ∷ []) (AreChars-append (chars bytes) (c ∷ []) t.each (ok, tt)))

IsText-join : (a b : List ℕ) → IsText a → IsText b → IsText (a ++ b)
IsText-join a b t u =
    let e : utf8 (chars a ++ chars b) ≡ a ++ b = encodes-append (chars a) (chars b) ∙ ap (λ (x : List ℕ). x ++ utf8 (chars b)) t.spelled ∙ ap (λ (x : List ℕ). a ++ x) u.spelled in
    subst IsText e (IsText-utf8 (chars a ++ chars b) (AreChars-append (chars a) (chars b) t.each u.each))

-- the front with more characters after the place at
pub text_grows : (bytes : List ℕ) (at n : ℕ) → at ≤ length bytes → IsText (take at bytes) → n ≤ length (drop at bytes) → IsText (take n (drop at bytes)) → (at + n ≤ length bytes) × IsText (take (at + n) bytes)
text_grows bytes at n le t few u = (omega (arith, few, length-drop at bytes), rw (take-add at n bytes) (IsText-join (take at bytes) (take n (drop at bytes)) t u))

-- the front with one more character after the place at
pub front_grows : (bytes : List ℕ) (at w c : ℕ) → at ≤ length bytes → IsText (take at bytes) → IsChar c → Begins YAML_UTF8_ENCODING c (drop at bytes) → w ≡ len_utf8 c → (at + w ≤ length bytes) × IsText (take (at + w) bytes)
front_grows bytes at w c le t ok b w-is =
    let front = take at bytes ++ encode c in
    let parts : bytes ≡ front ++ b.0 = sym (take-append-drop at bytes) ∙ ap (λ (x : List ℕ). take at bytes ++ x) b.1 ∙ simp append_assoc in
    let len : length front ≡ at + w = omega (arith, length-append (take at bytes) (encode c), length-take at bytes, length-encode c) in
    let e : front ≡ take (at + w) bytes = sym (take_at front b.0 (at + w) len) ∙ ap (λ (x : List ℕ). take (at + w) x) (sym parts) in
    (omega (arith, ap length parts, length-append front b.0), subst IsText e (IsText-push (take at bytes) c t ok))

pub none_at_end : (bytes : List ℕ) → length bytes ≤ 0 → BeginsWithNone YAML_UTF8_ENCODING bytes
none_at_end bytes h c ok b = absurd (omega (arith, ap length b.1, length-append (encode c) b.0, length-encode c, len_utf8_bounds c))

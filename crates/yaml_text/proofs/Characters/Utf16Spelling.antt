-- The character that bytes of UTF-16 begin with: from a character to its units, and back.
use Rattle.std.proofs.Common.{◌≡◌, ℕ, ◌+◌, ◌-◌, ◌*◌, ◌/◌, ◌%◌, ◌<◌, ◌≤◌, ◌⊎◌, Bool, true, false, List, [], ◌∷◌, ◌++◌, length, get_or, take, drop, refl, sym, ap, ◌∙◌, subst, append_assoc, inl, inr, arith, lt-ltb, le-ltb}
use Rattle.std.proofs.lemmas.Bool.{cases_lt, cases_Bool, true≢false}
use Rattle.std.proofs.lemmas.Bool.Decides.{nat_tests}
use Rattle.yaml_text.specs.Chars.{is_char, utf8}
use Rattle.yaml_text.specs.TextBytes.{IsChar, AreChars, IsText}
use Rattle.yaml_text.specs.Utf16.{unit, unit_of, unit_at, spelling16, value16, is_low, is_high, pair_of, utf16}
use Rattle.yaml_text.specs.inside.Units.{Begins16, BeginsWithNone16, Reads16}
use Rattle.std.specs.Str.{chars}
use Rattle.std.proofs.lemmas.List.{append-nil, length-append, length-take, take-append-drop, take_at}
use Rattle.std.proofs.lemmas.Grind.{flat_map-append}
use Rattle.std.proofs.lemmas.Str.{encodes-append}
use lib.Utf8.{encode}
use Rattle.yaml_text.proofs.Decodings.DecodeFronts.{AreChars-append, chars-utf8, IsText-utf8, IsText-nil}
use Rattle.yaml_text.proofs.Characters.CharRanges.{char_range}

pub one_unit : (big : Bool) (c : ℕ) → c < 0x10000 → spelling16 big c ≡ unit big c
unfolding spelling16
one_unit big c h = rw (lt-ltb c 0x10000 h) refl

pub two_units : (big : Bool) (c : ℕ) → 0x10000 ≤ c → spelling16 big c ≡ unit big (0xD800 + (c - 0x10000) / 1024) ++ unit big (0xDC00 + (c - 0x10000) % 1024)
unfolding spelling16
two_units big c h = rw (le-ltb c 0x10000 h) refl

unit_back : (big : Bool) (u : ℕ) (more : List ℕ) → unit_at big (unit big u ++ more) 0 ≡ u
unit_back true u more = omega arith
unit_back false u more = omega arith

second_back : (big : Bool) (u v : ℕ) (more : List ℕ) → unit_at big ((unit big u ++ unit big v) ++ more) 2 ≡ v
second_back true u v more = omega arith
second_back false u v more = omega arith

pub first_back : (big : Bool) (u v : ℕ) (more : List ℕ) → unit_at big ((unit big u ++ unit big v) ++ more) 0 ≡ u
first_back true u v more = omega arith
first_back false u v more = omega arith

-- If the bytes begin with a character, each test of its units succeeds.
pub record Units (big : Bool) (bytes : List ℕ) (c : ℕ) : Type 0 where
  pub whole : 2 ≤ length bytes
  pub not_low : is_low (unit_at big bytes 0) ≡ false
  pub plain : is_high (unit_at big bytes 0) ≡ false → unit_at big bytes 0 ≡ c
  pub pair : is_high (unit_at big bytes 0) ≡ true → (4 ≤ length bytes) × (is_low (unit_at big bytes 2) ≡ true) × (pair_of (unit_at big bytes 0) (unit_at big bytes 2) ≡ c)

no_surrogate : (c : ℕ) → (c < 0xD800) ⊎ ((0xE000 ≤ c) × (c < 0x110000)) → (is_low c ≡ false) × (is_high c ≡ false)
no_surrogate c h = (grind (arith, nat_tests), grind (arith, nat_tests))

pub high_of : (c : ℕ) → 0x10000 ≤ c → c < 0x110000 → (is_low (0xD800 + (c - 0x10000) / 1024) ≡ false) × (is_high (0xD800 + (c - 0x10000) / 1024) ≡ true)
high_of c l h = (grind (arith, nat_tests), grind (arith, nat_tests))

low_of : (c : ℕ) → is_low (0xDC00 + (c - 0x10000) % 1024) ≡ true
low_of c = grind (arith, nat_tests)

length-unit : (big : Bool) (u : ℕ) (more : List ℕ) → 2 ≤ length (unit big u ++ more)
length-unit true u more = omega arith
length-unit false u more = omega arith

length-units : (big : Bool) (u v : ℕ) (more : List ℕ) → 4 ≤ length ((unit big u ++ unit big v) ++ more)
length-units true u v more = omega arith
length-units false u v more = omega arith

units_at : (big : Bool) (c : ℕ) (more : List ℕ) → is_char c ≡ true → Units big (spelling16 big c ++ more) c
units_at big c more ok =
    let r = char_range c ok in
    elim (cases_lt c 0x10000) [
      | inl small ↦
          let n = no_surrogate c r.1 in
          let u = unit_back big c more in
          rw (one_unit big c small) record {
            whole = length-unit big c more;
            not_low = rw u n.0;
            plain = λ h. u;
            pair = λ h. absurd (true≢false (sym h ∙ rw u n.1));
          }
      | inr great ↦
          let high = 0xD800 + (c - 0x10000) / 1024 in
          let low = 0xDC00 + (c - 0x10000) % 1024 in
          let u = first_back big high low more in
          let v = second_back big high low more in
          let n = high_of c great (omega (arith, r.1)) in
          let value : pair_of high low ≡ c = omega arith in
          let four = length-units big high low more in
          rw (two_units big c great) record {
            whole = omega arith;
            not_low = rw u n.0;
            plain = λ h. absurd (true≢false (sym n.1 ∙ rw u at h));
            pair = λ h. (four, rw v (low_of c), rw (u, v) value);
          }
    ]

pub units : (big : Bool) (bytes : List ℕ) (c : ℕ) → IsChar c → Begins16 big c bytes → Units big bytes c
units big bytes c ok b = subst (λ (x : List ℕ). Units big x c) (sym b.1) (units_at big c b.0 ok)

-- ---- from units to the character

unit_is : (big : Bool) (a b : ℕ) → a < 256 → b < 256 → unit big (unit_of big a b) ≡ a ∷ b ∷ []
unit_is true a b x y = let p : (a * 256 + b) / 256 ≡ a = omega arith in let q : (a * 256 + b) % 256 ≡ b = omega arith in λ k. p k ∷ q k ∷ []
unit_is false a b x y = let p : (b * 256 + a) % 256 ≡ a = omega arith in let q : (b * 256 + a) / 256 ≡ b = omega arith in λ k. p k ∷ q k ∷ []

unit_below : (big : Bool) (a b : ℕ) → a < 256 → b < 256 → unit_of big a b < 0x10000
unit_below true a b x y = omega arith
unit_below false a b x y = omega arith

abbrev pub AreBytes : List ℕ → Type 0
AreBytes bytes = (i : ℕ) → get_or bytes i 0 < 256

-- the bytes begin with the character c, which has n bytes
pub record Found (big : Bool) (bytes : List ℕ) (c n : ℕ) : Type 0 where
  pub begins : Begins16 big c bytes
  pub size : n ≡ length (spelling16 big c)

pub found_one : (big : Bool) (bytes : List ℕ) → AreBytes bytes → 2 ≤ length bytes → Found big bytes (unit_at big bytes 0) 2
found_one big [] fits l = absurd (omega arith)
found_one big (a ∷ []) fits l = absurd (omega arith)
found_one big (a ∷ b ∷ more) fits l =
    let e : spelling16 big (unit_of big a b) ≡ a ∷ b ∷ [] = one_unit big (unit_of big a b) (unit_below big a b (fits 0) (fits 1)) ∙ unit_is big a b (fits 0) (fits 1) in
    record { begins = (more, rw e refl); size = rw e refl }

high_range : (u : ℕ) → is_high u ≡ true → (0xD800 ≤ u) × (u ≤ 0xDBFF)
high_range u h = (grind (arith, nat_tests), grind (arith, nat_tests))

low_range : (u : ℕ) → is_low u ≡ true → (0xDC00 ≤ u) × (u ≤ 0xDFFF)
low_range u h = (grind (arith, nat_tests), grind (arith, nat_tests))

pair_bounds : (u v : ℕ) → is_high u ≡ true → is_low v ≡ true → (0x10000 ≤ pair_of u v) × (0xD800 + (pair_of u v - 0x10000) / 1024 ≡ u) × (0xDC00 + (pair_of u v - 0x10000) % 1024 ≡ v)
pair_bounds u v h l =
    let a : (0xD800 ≤ u) × (u ≤ 0xDBFF) = high_range u h in
    let b : (0xDC00 ≤ v) × (v ≤ 0xDFFF) = low_range v l in
    (omega arith, omega arith, omega arith)

-- every pair is a character
pub pair_is_char : (u v : ℕ) → is_high u ≡ true → is_low v ≡ true → is_char (pair_of u v) ≡ true
unfolding is_char
pair_is_char u v h l =
    let a : (0xD800 ≤ u) × (u ≤ 0xDBFF) = high_range u h in
    let b : (0xDC00 ≤ v) × (v ≤ 0xDFFF) = low_range v l in
    let least : 0x10000 ≤ pair_of u v = omega arith in
    let most : pair_of u v ≤ 0x10FFFF = omega arith in
    grind (arith, nat_tests, least, most)

pub found_two : (big : Bool) (bytes : List ℕ) → AreBytes bytes → 4 ≤ length bytes → is_high (unit_at big bytes 0) ≡ true → is_low (unit_at big bytes 2) ≡ true → Found big bytes (pair_of (unit_at big bytes 0) (unit_at big bytes 2)) 4
found_two big [] fits l h w = absurd (omega arith)
found_two big (a ∷ []) fits l h w = absurd (omega arith)
found_two big (a ∷ b ∷ []) fits l h w = absurd (omega arith)
found_two big (a ∷ b ∷ c ∷ []) fits l h w = absurd (omega arith)
found_two big (a ∷ b ∷ c ∷ d ∷ more) fits l h w =
    let u = unit_of big a b in
    let v = unit_of big c d in
    let r = pair_bounds u v h w in
    let e : spelling16 big (pair_of u v) ≡ (a ∷ b ∷ []) ++ (c ∷ d ∷ []) =
    two_units big (pair_of u v) r.0 ∙ ap (λ n. unit big n ++ unit big (0xDC00 + (pair_of u v - 0x10000) % 1024)) r.1 ∙ ap (λ n. unit big u ++ unit big n) r.2
    ∙ (λ k. unit_is big a b (fits 0) (fits 1) k ++ unit_is big c d (fits 2) (fits 3) k) in
    record { begins = (more, rw e refl); size = rw e refl }

-- ---- the front

pub reads_none : (big : Bool) (bytes : List ℕ) → Reads16 big bytes [] 0
unfolding chars
reads_none big bytes = record { within = omega arith; is_text = IsText-nil; spelled = refl }

pub reads_more : (big : Bool) (bytes text : List ℕ) (at w c : ℕ) → Reads16 big bytes text at → IsChar c → Begins16 big c (drop at bytes) → w ≡ length (spelling16 big c) → Reads16 big bytes (text ++ encode c) (at + w)
reads_more big bytes text at w c r ok b w-is =
    let next = chars text ++ c ∷ [] in
    let each : AreChars next = AreChars-append (chars text) (c ∷ []) r.is_text.each (ok, tt) in
    let e : utf8 next ≡ text ++ encode c = encodes-append (chars text) (c ∷ []) ∙ ap (λ (x : List ℕ). utf8 (chars text) ++ x) (append-nil (encode c)) ∙ ap (λ (x : List ℕ). x ++ encode c) r.is_text.spelled in
    let cs : chars (text ++ encode c) ≡ next = ap chars (sym e) ∙ chars-utf8 next each in
    let spelt : utf16 big next ≡ take at bytes ++ spelling16 big c = flat_map-append (spelling16 big) (chars text) (c ∷ []) ∙ ap (λ (x : List ℕ). utf16 big (chars text) ++ x) (append-nil (spelling16 big c)) ∙ ap (λ (x : List ℕ). x ++ spelling16 big c) (sym r.spelled) in
    let parts : bytes ≡ (take at bytes ++ spelling16 big c) ++ b.0 = sym (take-append-drop at bytes) ∙ ap (λ (x : List ℕ). take at bytes ++ x) b.1 ∙ sym (append_assoc (take at bytes) (spelling16 big c) b.0) in
    let len : length (take at bytes ++ spelling16 big c) ≡ at + w = omega (arith, length-append (take at bytes) (spelling16 big c), length-take at bytes, r.within) in
    record {
      within = omega (arith, ap length parts, length-append (take at bytes ++ spelling16 big c) b.0);
      is_text = subst IsText e (IsText-utf8 next each);
      spelled = ap (λ (x : List ℕ). take (at + w) x) parts ∙ take_at (take at bytes ++ spelling16 big c) b.0 (at + w) len ∙ sym spelt ∙ ap (utf16 big) (sym cs);
    }

pub none16_at_end : (big : Bool) (bytes : List ℕ) → length bytes ≤ 0 → BeginsWithNone16 big bytes
none16_at_end big bytes h c ok b = let s = units big bytes c ok b in omega arith

-- the value of the first units is the character that they spell
pub value16_is : (big : Bool) (bytes : List ℕ) (c : ℕ) → IsChar c → Begins16 big c bytes → value16 big bytes ≡ c
unfolding value16
value16_is big bytes c ok b =
    let s = units big bytes c ok b in
    elim (cases_Bool (is_high (unit_at big bytes 0))) [
      | inl h ↦ rw h (s.pair h).2
      | inr h ↦ rw h (s.plain h)
    ]

pub some_units : (big : Bool) (c : ℕ) → IsChar c → 0 < length (spelling16 big c)
some_units big c ok = let s = units big (spelling16 big c) c ok ([], sym (append-nil (spelling16 big c))) in omega (arith, s.whole)

-- The character that bytes of UTF-8 begin with: from a character to its octets, and back.
use Rattle.std.proofs.Common.{◌≡◌, ℕ, zero, suc, ◌+◌, ◌*◌, ◌/◌, ◌%◌, ◌<◌, ◌≤◌, ◌⊎◌, true, false, Bool, ◌&&◌, not, cond, ltb, eqb, Option, Some, None, List, [], ◌∷◌, ◌++◌, length, get_or, refl, sym, ap, ◌∙◌, subst, inl, inr, arith, lt-ltb, le-ltb}
use Rattle.std.specs.Char.{len_utf8}
use Rattle.std.proofs.lemmas.Bool.{cases_lt, cases_Bool}
use Rattle.std.proofs.lemmas.Bool.Decides.{nat_tests}
use Rattle.std.proofs.lemmas.Str.{encode_ascii}
use lib.Utf8.{encode, next}
use Rattle.yaml_text.specs.declared.types.yaml_encoding_t.TheVariants.{YAML_UTF8_ENCODING}
use Rattle.yaml_text.specs.Chars.{is_char}
use Rattle.yaml_text.specs.TextBytes.{IsChar}
use Rattle.yaml_text.proofs.Characters.CharRanges.{char_range}
use Rattle.yaml_text.specs.Decoding.{Begins}
use Rattle.yaml_text.specs.Utf8.{width_of, continues, stray_at, value_of, is_scalar}

pub two : (c : ℕ) → 128 ≤ c → c < 2048 → encode c ≡ (192 + c / 64) ∷ next c ∷ []
unfolding encode
two c l h = rw (le-ltb c 128 l, lt-ltb c 2048 h)

pub three : (c : ℕ) → 2048 ≤ c → c < 65536 → encode c ≡ (224 + c / 4096) ∷ next (c / 64) ∷ next c ∷ []
unfolding encode
three c l h = rw (le-ltb c 128 (omega arith), le-ltb c 2048 l, lt-ltb c 65536 h)

pub four : (c : ℕ) → 65536 ≤ c → encode c ≡ (240 + c / 262144) ∷ next (c / 4096) ∷ next (c / 64) ∷ next c ∷ []
unfolding encode
four c l = rw (le-ltb c 128 (omega arith), le-ltb c 2048 (omega arith), le-ltb c 65536 l)

-- ---- the octets after the lead, one by one

-- continuations are not strays
pub stray_two : (a b : ℕ) (more : List ℕ) → continues b ≡ true → stray_at 2 (a ∷ b ∷ more) ≡ None
unfolding stray_at
stray_two a b more h = rw h refl

pub stray_three : (a b c : ℕ) (more : List ℕ) → continues b ≡ true → continues c ≡ true → stray_at 3 (a ∷ b ∷ c ∷ more) ≡ None
unfolding stray_at
stray_three a b c more h i = rw (h, i) refl

pub stray_four : (a b c d : ℕ) (more : List ℕ) → continues b ≡ true → continues c ≡ true → continues d ≡ true → stray_at 4 (a ∷ b ∷ c ∷ d ∷ more) ≡ None
unfolding stray_at
stray_four a b c d more h i j = rw (h, i, j) refl

-- the first stray, if one octet after the other is looked at
abbrev pub first_stray : ℕ → List ℕ → Option ℕ
first_stray w bytes =
    cond (ltb 1 w && not (continues (get_or bytes 1 0))) (Some 1)
    (cond (ltb 2 w && not (continues (get_or bytes 2 0))) (Some 2)
    (cond (ltb 3 w && not (continues (get_or bytes 3 0))) (Some 3) None))

stray_within : (w : ℕ) (bytes : List ℕ) → w < 5 → w ≤ length bytes → stray_at w bytes ≡ first_stray w bytes
unfolding stray_at
stray_within zero bytes l h = refl
stray_within (suc zero) [] l h = absurd (omega arith)
stray_within (suc zero) (a ∷ more) l h = refl
stray_within (suc (suc zero)) [] l h = absurd (omega arith)
stray_within (suc (suc zero)) (a ∷ []) l h = absurd (omega arith)
stray_within (suc (suc zero)) (a ∷ b ∷ more) l h = elim (cases_Bool (continues b)) [ inl i ↦ rw i refl | inr i ↦ rw i refl ]
stray_within (suc (suc (suc zero))) [] l h = absurd (omega arith)
stray_within (suc (suc (suc zero))) (a ∷ []) l h = absurd (omega arith)
stray_within (suc (suc (suc zero))) (a ∷ b ∷ []) l h = absurd (omega arith)
stray_within (suc (suc (suc zero))) (a ∷ b ∷ c ∷ more) l h =
    elim (cases_Bool (continues b)) [
      | inl i ↦ elim (cases_Bool (continues c)) [ inl j ↦ rw (i, j) refl | inr j ↦ rw (i, j) refl ]
      | inr i ↦ rw i refl
    ]
stray_within (suc (suc (suc (suc zero)))) [] l h = absurd (omega arith)
stray_within (suc (suc (suc (suc zero)))) (a ∷ []) l h = absurd (omega arith)
stray_within (suc (suc (suc (suc zero)))) (a ∷ b ∷ []) l h = absurd (omega arith)
stray_within (suc (suc (suc (suc zero)))) (a ∷ b ∷ c ∷ []) l h = absurd (omega arith)
stray_within (suc (suc (suc (suc zero)))) (a ∷ b ∷ c ∷ d ∷ more) l h =
    elim (cases_Bool (continues b)) [
      | inl i ↦ elim (cases_Bool (continues c)) [
        | inl j ↦ elim (cases_Bool (continues d)) [ inl k ↦ rw (i, j, k) refl | inr k ↦ rw (i, j, k) refl ]
        | inr j ↦ rw (i, j) refl
      ]
      | inr i ↦ rw i refl
    ]
stray_within (suc (suc (suc (suc (suc w))))) bytes l h = absurd (omega arith)

width_below : (b : ℕ) → width_of b < 5
width_below b = grind (arith, nat_tests)

pub stray_is : (bytes : List ℕ) → width_of (get_or bytes 0 0) ≤ length bytes → stray_at (width_of (get_or bytes 0 0)) bytes ≡ first_stray (width_of (get_or bytes 0 0)) bytes
stray_is bytes h = stray_within (width_of (get_or bytes 0 0)) bytes (width_below (get_or bytes 0 0)) h

-- The least value that needs so many octets.
abbrev pub least_of : ℕ → ℕ
least_of width = cond (eqb width 2) 0x80 (cond (eqb width 3) 0x800 (cond (eqb width 4) 0x10000 0))

-- The bytes begin with a character.
pub record Stands (bytes : List ℕ) (c : ℕ) : Type 0 where
  pub width : width_of (get_or bytes 0 0) ≡ len_utf8 c
  pub whole : len_utf8 c ≤ length bytes
  pub joined : stray_at (len_utf8 c) bytes ≡ None
  pub value : value_of (len_utf8 c) bytes ≡ c

pub next_continues : (c : ℕ) → continues (next c) ≡ true
next_continues c = grind (arith, nat_tests)

stands1 : (c : ℕ) (more : List ℕ) → c < 128 → Stands (c ∷ more) c
unfolding stray_at value_of
stands1 c more h =
    let w : len_utf8 c ≡ 1 = grind (arith, nat_tests) in
    record { width = grind (arith, nat_tests); whole = rw w (omega arith); joined = rw w refl; value = rw w refl }

stands2 : (c : ℕ) (more : List ℕ) → 128 ≤ c → c < 2048 → Stands ((192 + c / 64) ∷ next c ∷ more) c
unfolding stray_at value_of
stands2 c more l h =
    let w : len_utf8 c ≡ 2 = grind (arith, nat_tests) in
    record { width = grind (arith, nat_tests); whole = rw w (omega arith); joined = rw w (stray_two (192 + c / 64) (next c) more (next_continues c)); value = rw w (omega arith) }

stands3 : (c : ℕ) (more : List ℕ) → 2048 ≤ c → c < 65536 → Stands ((224 + c / 4096) ∷ next (c / 64) ∷ next c ∷ more) c
unfolding stray_at value_of
stands3 c more l h =
    let w : len_utf8 c ≡ 3 = grind (arith, nat_tests) in
    record { width = grind (arith, nat_tests); whole = rw w (omega arith); joined = rw w (stray_three (224 + c / 4096) (next (c / 64)) (next c) more (next_continues (c / 64)) (next_continues c)); value = rw w (omega arith) }

stands4 : (c : ℕ) (more : List ℕ) → 65536 ≤ c → c < 0x110000 → Stands ((240 + c / 262144) ∷ next (c / 4096) ∷ next (c / 64) ∷ next c ∷ more) c
unfolding stray_at value_of
stands4 c more l h =
    let w : len_utf8 c ≡ 4 = grind (arith, nat_tests) in
    record { width = grind (arith, nat_tests); whole = rw w (omega arith); joined = rw w (stray_four (240 + c / 262144) (next (c / 4096)) (next (c / 64)) (next c) more (next_continues (c / 4096)) (next_continues (c / 64)) (next_continues c)); value = rw w (omega arith) }

pub stands : (c : ℕ) (more : List ℕ) → c < 0x110000 → Stands (encode c ++ more) c
stands c more h =
    elim (cases_lt c 128) [
      | inl a ↦ rw (encode_ascii c a) (stands1 c more a)
      | inr a ↦ elim (cases_lt c 2048) [
        | inl b ↦ rw (two c a b) (stands2 c more a b)
        | inr b ↦ elim (cases_lt c 65536) [
          | inl d ↦ rw (three c b d) (stands3 c more b d)
          | inr d ↦ rw (four c d) (stands4 c more d h)
        ]
      ]
    ]

-- ---- from octets to the character

continued : (c : ℕ) → continues c ≡ true → (128 ≤ c) × (c < 192)
continued c h = (grind (arith, nat_tests), grind (arith, nat_tests))

-- no octet is a stray, so this one is none, and none after it is
none_here : (b : Bool) (n : ℕ) (later : Option ℕ) → cond (not b) (Some n) later ≡ None → (b ≡ true) × (later ≡ None)
none_here true n later e = (refl, e)
none_here false n later e = absurd (cc e)

joined2 : (b c : ℕ) (more : List ℕ) → stray_at 2 (b ∷ c ∷ more) ≡ None → (128 ≤ c) × (c < 192)
joined2 b c more e =
    let p = none_here (continues c) 1 None (sym (stray_within 2 (b ∷ c ∷ more) (omega arith) (omega arith)) ∙ e) in
    continued c p.0

joined3 : (b c d : ℕ) (more : List ℕ) → stray_at 3 (b ∷ c ∷ d ∷ more) ≡ None → ((128 ≤ c) × (c < 192)) × ((128 ≤ d) × (d < 192))
joined3 b c d more e =
    let p = none_here (continues c) 1 (cond (not (continues d)) (Some 2) None) (sym (stray_within 3 (b ∷ c ∷ d ∷ more) (omega arith) (omega arith)) ∙ e) in
    let q = none_here (continues d) 2 None p.1 in
    (continued c p.0, continued d q.0)

joined4 : (b c d e : ℕ) (more : List ℕ) → stray_at 4 (b ∷ c ∷ d ∷ e ∷ more) ≡ None → ((128 ≤ c) × (c < 192)) × ((128 ≤ d) × (d < 192)) × ((128 ≤ e) × (e < 192))
joined4 b c d e more h =
    let p = none_here (continues c) 1 (cond (not (continues d)) (Some 2) (cond (not (continues e)) (Some 3) None)) (sym (stray_within 4 (b ∷ c ∷ d ∷ e ∷ more) (omega arith) (omega arith)) ∙ h) in
    let q = none_here (continues d) 2 (cond (not (continues e)) (Some 3) None) p.1 in
    let r = none_here (continues e) 3 None q.1 in
    (continued c p.0, continued d q.0, continued e r.0)

-- The character that octets of such a width spell.
pub record Reads (w : ℕ) (bytes : List ℕ) (v : ℕ) : Type 0 where
  pub begins : Begins YAML_UTF8_ENCODING v bytes
  pub width : w ≡ len_utf8 v

abbrev pub CanRead : ℕ → List ℕ → ℕ → Type 0
CanRead w bytes v = stray_at w bytes ≡ None → least_of w ≤ v → v < 0x110000 → Reads w bytes v

pub reads1 : (b : ℕ) (more : List ℕ) → b < 128 → Reads 1 (b ∷ more) b
reads1 b more h = record { begins = (more, rw (encode_ascii b h) refl); width = grind (arith, nat_tests) }

pub reads2 : (b c : ℕ) (more : List ℕ) → 192 ≤ b → b < 224 → CanRead 2 (b ∷ c ∷ more) (b % 32 * 64 + c % 64)
reads2 b c more l h joined least top =
    let v = b % 32 * 64 + c % 64 in
    let cs = joined2 b c more joined in
    let p : 192 + v / 64 ≡ b = omega arith in
    let q : next v ≡ c = omega arith in
    record { begins = (more, rw (two v least (omega arith), p, q) refl); width = grind (arith, nat_tests) }

pub reads3 : (b c d : ℕ) (more : List ℕ) → 224 ≤ b → b < 240 → CanRead 3 (b ∷ c ∷ d ∷ more) (b % 16 * 4096 + c % 64 * 64 + d % 64)
reads3 b c d more l h joined least top =
    let v = b % 16 * 4096 + c % 64 * 64 + d % 64 in
    let cs = joined3 b c d more joined in
    let p : 224 + v / 4096 ≡ b = omega arith in
    let q : next (v / 64) ≡ c = omega arith in
    let r : next v ≡ d = omega arith in
    record { begins = (more, rw (three v least (omega arith), p, q, r) refl); width = grind (arith, nat_tests) }

pub reads4 : (b c d e : ℕ) (more : List ℕ) → 240 ≤ b → b < 248 → CanRead 4 (b ∷ c ∷ d ∷ e ∷ more) (b % 8 * 262144 + c % 64 * 4096 + d % 64 * 64 + e % 64)
reads4 b c d e more l h joined least top =
    let v = b % 8 * 262144 + c % 64 * 4096 + d % 64 * 64 + e % 64 in
    let cs = joined4 b c d e more joined in
    let p : 240 + v / 262144 ≡ b = omega arith in
    let half : v / 64 ≡ b % 8 * 4096 + c % 64 * 64 + d % 64 = omega arith in
    let q : next (v / 4096) ≡ c = omega arith in
    let r : next (v / 64) ≡ d = rw half (omega arith) in
    let t : next v ≡ e = omega arith in
    record { begins = (more, rw (four v least, p, q, r, t) refl); width = grind (arith, nat_tests) }

-- which widths there are
width_cases : (b : ℕ) → ((width_of b ≡ 0) ⊎ ((width_of b ≡ 1) × (b < 128))) ⊎ (((width_of b ≡ 2) × (192 ≤ b) × (b < 224)) ⊎ (((width_of b ≡ 3) × (224 ≤ b) × (b < 240)) ⊎ ((width_of b ≡ 4) × (240 ≤ b) × (b < 248))))
width_cases b =
    elim (cases_lt b 128) [
      | inl a ↦ inl (inr (grind (arith, nat_tests), a))
      | inr a ↦ elim (cases_lt b 192) [
        | inl d ↦ inl (inl (grind (arith, nat_tests)))
        | inr d ↦ elim (cases_lt b 224) [
          | inl e ↦ inr (inl (grind (arith, nat_tests), d, e))
          | inr e ↦ elim (cases_lt b 240) [
            | inl f ↦ inr (inr (inl (grind (arith, nat_tests), e, f)))
            | inr f ↦ elim (cases_lt b 248) [
              | inl g ↦ inr (inr (inr (grind (arith, nat_tests), f, g)))
              | inr g ↦ inl (inl (grind (arith, nat_tests)))
            ]
          ]
        ]
      ]
    ]

abbrev ReadsAt : List ℕ → ℕ → Type 0
ReadsAt bytes w = w ≤ length bytes → CanRead w bytes (value_of w bytes)

at1 : (bytes : List ℕ) → get_or bytes 0 0 < 128 → ReadsAt bytes 1
unfolding value_of
at1 [] h l j m t = absurd (omega arith)
at1 (b ∷ bs) h l j m t = reads1 b bs h

at2 : (bytes : List ℕ) → 192 ≤ get_or bytes 0 0 → get_or bytes 0 0 < 224 → ReadsAt bytes 2
unfolding value_of
at2 [] lo hi l = absurd (omega arith)
at2 (b ∷ []) lo hi l = absurd (omega arith)
at2 (b ∷ c ∷ more) lo hi l = reads2 b c more lo hi

at3 : (bytes : List ℕ) → 224 ≤ get_or bytes 0 0 → get_or bytes 0 0 < 240 → ReadsAt bytes 3
unfolding value_of
at3 [] lo hi l = absurd (omega arith)
at3 (b ∷ []) lo hi l = absurd (omega arith)
at3 (b ∷ c ∷ []) lo hi l = absurd (omega arith)
at3 (b ∷ c ∷ d ∷ more) lo hi l = reads3 b c d more lo hi

at4 : (bytes : List ℕ) → 240 ≤ get_or bytes 0 0 → get_or bytes 0 0 < 248 → ReadsAt bytes 4
unfolding value_of
at4 [] lo hi l = absurd (omega arith)
at4 (b ∷ []) lo hi l = absurd (omega arith)
at4 (b ∷ c ∷ []) lo hi l = absurd (omega arith)
at4 (b ∷ c ∷ d ∷ []) lo hi l = absurd (omega arith)
at4 (b ∷ c ∷ d ∷ e ∷ more) lo hi l = reads4 b c d e more lo hi

pub reads : (bytes : List ℕ) → 0 < width_of (get_or bytes 0 0) → ReadsAt bytes (width_of (get_or bytes 0 0))
reads bytes some =
    let P : ℕ → Type 0 = λ w. ReadsAt bytes w in
    elim (width_cases (get_or bytes 0 0)) [
      | inl x ↦ elim x [ inl z ↦ absurd (omega (arith, z)) | inr w ↦ subst P (sym w.0) (at1 bytes w.1) ]
      | inr x ↦ elim x [
        | inl w ↦ subst P (sym w.0) (at2 bytes w.1 w.2)
        | inr y ↦ elim y [ inl w ↦ subst P (sym w.0) (at3 bytes w.1 w.2) | inr w ↦ subst P (sym w.0) (at4 bytes w.1 w.2) ]
      ]
    ]

-- If the bytes begin with a character, each test of the width w and the value v succeeds.
pub record Passes (bytes : List ℕ) (w v : ℕ) : Type 0 where
  pub some : 0 < w
  pub whole : w ≤ length bytes
  pub joined : stray_at w bytes ≡ None
  pub least : w ≤ len_utf8 v
  pub scalar : is_scalar v ≡ true
  pub char : is_char v ≡ true

pub scalar_from_range : (c : ℕ) → (c < 0xD800) ⊎ ((0xE000 ≤ c) × (c < 0x110000)) → is_scalar c ≡ true
scalar_from_range c h = grind (arith, nat_tests)

scalar_below : (c : ℕ) → is_scalar c ≡ true → c < 0x110000
scalar_below c h = grind (arith, nat_tests)

passes_at : (bytes : List ℕ) (c : ℕ) → is_char c ≡ true → Stands bytes c → Passes bytes (len_utf8 c) c
passes_at bytes c e s =
    let r = char_range c e in
    record { some = grind (arith, nat_tests); whole = s.whole; joined = s.joined; least = omega arith; scalar = scalar_from_range c r.1; char = e }

pub passes : (bytes : List ℕ) (w v c : ℕ) → w ≡ width_of (get_or bytes 0 0) → v ≡ value_of w bytes → IsChar c → Begins YAML_UTF8_ENCODING c bytes → Passes bytes w v
passes bytes w v c w-is v-is ok begins =
    let e : is_char c ≡ true = ok in
    let r = char_range c e in
    let s : Stands bytes c = subst (λ (x : List ℕ). Stands x c) (sym begins.1) (stands c begins.0 (omega (arith, r.1))) in
    let w-len : len_utf8 c ≡ w = sym s.width ∙ sym w-is in
    let v-c : c ≡ v = sym s.value ∙ ap (λ (x : ℕ). value_of x bytes) w-len ∙ sym v-is in
    subst (λ (x : ℕ). Passes bytes w x) v-c (subst (λ (x : ℕ). Passes bytes x c) w-len (passes_at bytes c e s))

-- a value that has so many octets is not less than the least that has
least_is : (w v : ℕ) → w ≤ len_utf8 v → least_of w ≤ v
least_is w v h = grind (arith, nat_tests)

pub reads_with : (bytes : List ℕ) (w v : ℕ) → w ≡ width_of (get_or bytes 0 0) → v ≡ value_of w bytes → 0 < w → w ≤ length bytes → stray_at w bytes ≡ None → w ≤ len_utf8 v → is_scalar v ≡ true → Reads w bytes v
reads_with bytes w v w-is v-is some whole joined least ok =
    let P : ℕ → Type 0 = λ x. (0 < x → ReadsAt bytes x) in
    let all = subst P (sym w-is) (λ (p : 0 < width_of (get_or bytes 0 0)). reads bytes p) some whole joined in
    subst (λ (x : ℕ). least_of w ≤ x → x < 0x110000 → Reads w bytes x) (sym v-is) all (least_is w v least) (scalar_below v ok)

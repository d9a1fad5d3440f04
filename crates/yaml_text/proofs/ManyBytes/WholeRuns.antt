-- Bytes whose windows are clean are whole characters.
use Rattle.std.proofs.Common.{◌≡◌, ℕ, zero, suc, ◌+◌, ◌-◌, ◌*◌, ◌%◌, ◌<◌, ◌≤◌, ◌⊎◌, Bool, true, false, ◌||◌, leb, List, [], ◌∷◌, length, get_or, take, drop, refl, sym, ap, ◌∙◌, subst, inl, inr, arith}
use Rattle.std.proofs.lemmas.Bool.{cases_lt, true≢false}
use Rattle.std.proofs.lemmas.Bool.Decides.{nat_tests}
use Rattle.std.proofs.lemmas.List.{length-drop, drop-drop, get_or-drop}
use Rattle.std.specs.Char.{len_utf8}
use Rattle.yaml_text.specs.declared.types.yaml_encoding_t.TheVariants.{YAML_UTF8_ENCODING}
use Rattle.yaml_text.specs.Chars.{is_char}
use Rattle.yaml_text.specs.TextBytes.{IsText}
use Rattle.yaml_text.specs.Decoding.{Begins}
use Rattle.yaml_text.specs.Utf8.{continues}
use Rattle.yaml_text.specs.inside.Windows.{is_control, is_rare_lead, is_awaited, is_misplaced, differ, is_suspect, AreClean, Starts}
use Rattle.yaml_text.proofs.Characters.Utf8Spelling.{stray_two, stray_three, stray_four, reads1, reads2, reads3, reads4}
use Rattle.yaml_text.proofs.Decodings.DecodeFronts.{front_grows, IsText-nil}

-- ---- what the tests of a window say

both_false : (a b : Bool) → (a || b) ≡ false → (a ≡ false) × (b ≡ false)
both_false true b h = absurd (true≢false h)
both_false false b h = (refl, h)

same : (a b : Bool) → differ a b ≡ false → a ≡ b
same true true h = refl
same true false h = absurd (true≢false h)
same false true h = absurd (true≢false h)
same false false h = refl

record Clean (a b c d : ℕ) : Type 0 where
  control : is_control a ≡ false
  rare : is_rare_lead a b ≡ false
  next : continues d ≡ is_awaited a b c

clean : (a b c d : ℕ) → (is_control a || (is_rare_lead a b || is_misplaced a b c d)) ≡ false → Clean a b c d
clean a b c d h =
    let one = both_false (is_control a) _ h in
    let two = both_false (is_rare_lead a b) _ one.1 in
    record { control = one.0; rare = two.0; next = same (continues d) (is_awaited a b c) two.1 }

continued : (b : ℕ) → continues b ≡ true → (0x80 ≤ b) × (b < 0xC0)
continued b h = (grind (arith, nat_tests), grind (arith, nat_tests))

starting : (a : ℕ) → continues a ≡ false → (a < 0x80) ⊎ (0xC0 ≤ a)
starting a h = elim (cases_lt a 0x80) [ inl l ↦ inl l | inr l ↦ elim (cases_lt a 0xC0) [ inl m ↦ let no : continues a ≡ true = grind (arith, nat_tests) in absurd (true≢false (sym no ∙ h)) | inr m ↦ inr m ] ]

at_least : (m n : ℕ) → m ≤ n → leb m n ≡ true
at_least m n h = grind (arith, nat_tests)

less : (m n : ℕ) → n < m → leb m n ≡ false
less m n h = grind (arith, nat_tests)

after_lead : (x a b c : ℕ) → continues x ≡ is_awaited a b c → 0xC0 ≤ c → continues x ≡ true
after_lead x a b c is h = is ∙ rw (at_least 0xC0 c h) refl

after_two : (x a b c : ℕ) → continues x ≡ is_awaited a b c → 0xE0 ≤ b → continues x ≡ true
after_two x a b c is h = elim (cases_lt c 0xC0) [ inl l ↦ is ∙ rw (less 0xC0 c l, at_least 0xE0 b h) refl | inr l ↦ after_lead x a b c is l ]

after_three : (x a b c : ℕ) → continues x ≡ is_awaited a b c → 0xF0 ≤ a → continues x ≡ true
after_three x a b c is h =
    elim (cases_lt b 0xE0) [
      | inl l ↦ elim (cases_lt c 0xC0) [ inl m ↦ is ∙ rw (less 0xC0 c m, less 0xE0 b l, at_least 0xF0 a h) refl | inr m ↦ after_lead x a b c is m ]
      | inr l ↦ after_two x a b c is l
    ]

-- the three bytes after a character that ends with these three are as after a whole character
record Fresh (p q r : ℕ) : Type 0 where
  first : continues p ≡ false
  second : continues q ≡ is_awaited 0 0 p
  third : continues r ≡ is_awaited 0 p q

fresh : (x y z p q r : ℕ) → x < 0xF0 → y < 0xE0 → z < 0xC0 → continues p ≡ is_awaited x y z → continues q ≡ is_awaited y z p → continues r ≡ is_awaited z p q → Fresh p q r
fresh x y z p q r lx ly lz one two three =
    record {
      first = one ∙ rw (less 0xC0 z lz, less 0xE0 y ly, less 0xF0 x lx) refl;
      second = two ∙ rw (less 0xE0 z (omega arith), less 0xF0 y (omega arith)) refl;
      third = three ∙ rw (less 0xF0 z (omega arith)) refl;
    }

-- ---- which characters the leads begin

char_low : (v : ℕ) → 0xA0 ≤ v → v < 0xD800 → is_char v ≡ true
unfolding is_char
char_low v l h = grind (arith, nat_tests)

char_high : (v : ℕ) → 0xE000 ≤ v → v < 0xFFFE → is_char v ≡ true
unfolding is_char
char_high v l h = grind (arith, nat_tests)

char_far : (v : ℕ) → 0x10000 ≤ v → v < 0x110000 → is_char v ≡ true
unfolding is_char
char_far v l h = grind (arith, nat_tests)

char_one : (a : ℕ) → a < 0x80 → is_control a ≡ false → is_char a ≡ true
unfolding is_char
char_one a l h = grind (arith, nat_tests)

record Rare (a b : ℕ) : Type 0 where
  zero_lead : a ≡ 0xC0 → ⊥
  one_lead : a ≡ 0xC1 → ⊥
  top : a ≤ 0xF3
  c2 : a ≡ 0xC2 → 0xA0 ≤ b
  e0 : a ≡ 0xE0 → 0xA0 ≤ b
  ed : a ≡ 0xED → b < 0xA0
  ef : a ≡ 0xEF → b ≡ 0xBF → ⊥
  f0 : a ≡ 0xF0 → 0x90 ≤ b

rare_parts : (a b : ℕ) → is_rare_lead a b ≡ false → Rare a b
rare_parts a b h = record {
  zero_lead = λ e. grind (arith, nat_tests);
  one_lead = λ e. grind (arith, nat_tests);
  top = grind (arith, nat_tests);
  c2 = λ e. grind (arith, nat_tests);
  e0 = λ e. grind (arith, nat_tests);
  ed = λ e. grind (arith, nat_tests);
  ef = λ e f. grind (arith, nat_tests);
  f0 = λ e. grind (arith, nat_tests);
}

char_two : (a b : ℕ) → Rare a b → 0xC0 ≤ a → a < 0xE0 → 0x80 ≤ b → b < 0xC0 → 0xA0 ≤ a % 32 * 64 + b % 64
char_two a b r l h m n =
    elim (cases_lt a 0xC3) [
      | inl o ↦ elim (cases_lt a 0xC2) [
        | inl p ↦ elim (cases_lt a 0xC1) [ inl q ↦ absurd (r.zero_lead (omega arith)) | inr q ↦ absurd (r.one_lead (omega arith)) ]
        | inr p ↦ let e : a ≡ 0xC2 = omega arith in let k = r.c2 e in omega arith
      ]
      | inr o ↦ omega arith
    ]

char_three : (a b c : ℕ) → Rare a b → 0xE0 ≤ a → a < 0xF0 → 0x80 ≤ b → b < 0xC0 → 0x80 ≤ c → c < 0xC0 → (0x800 ≤ a % 16 * 4096 + b % 64 * 64 + c % 64) × (is_char (a % 16 * 4096 + b % 64 * 64 + c % 64) ≡ true)
char_three a b c r l h m n o p =
    elim (cases_lt a 0xE1) [
      | inl x ↦ let e : a ≡ 0xE0 = omega arith in let k = r.e0 e in (omega arith, char_low _ (omega arith) (omega arith))
      | inr x ↦ elim (cases_lt a 0xED) [
        | inl y ↦ (omega arith, char_low _ (omega arith) (omega arith))
        | inr y ↦ elim (cases_lt a 0xEE) [
          | inl z ↦ let e : a ≡ 0xED = omega arith in let k = r.ed e in (omega arith, char_low _ (omega arith) (omega arith))
          | inr z ↦ elim (cases_lt a 0xEF) [
            | inl w ↦ (omega arith, char_high _ (omega arith) (omega arith))
            | inr w ↦ let e : a ≡ 0xEF = omega arith in elim (cases_lt b 0xBF) [
              | inl i ↦ (omega arith, char_high _ (omega arith) (omega arith))
              | inr i ↦ absurd (r.ef e (omega arith))
            ]
          ]
        ]
      ]
    ]

char_four : (a b c d : ℕ) → Rare a b → 0xF0 ≤ a → 0x80 ≤ b → b < 0xC0 → (0x10000 ≤ a % 8 * 262144 + b % 64 * 4096 + c % 64 * 64 + d % 64) × (a % 8 * 262144 + b % 64 * 4096 + c % 64 * 64 + d % 64 < 0x110000)
char_four a b c d r l m n =
    let t = r.top in
    elim (cases_lt a 0xF1) [
      | inl x ↦ let e : a ≡ 0xF0 = omega arith in let k = r.f0 e in (omega arith, omega arith)
      | inr x ↦ (omega arith, omega arith)
    ]

-- ---- the first character of bytes whose first four windows are clean

one_inner : (P : ℕ → Type 0) → P 1 → (j : ℕ) → 0 < j → j < 2 → P j
one_inner P h j l m = let e : 1 ≡ j = omega arith in subst P e h

two_inner : (P : ℕ → Type 0) → P 1 → P 2 → (j : ℕ) → 0 < j → j < 3 → P j
two_inner P h i j l m = elim (cases_lt j 2) [ inl n ↦ one_inner P h j l n | inr n ↦ let e : 2 ≡ j = omega arith in subst P e i ]

three_inner : (P : ℕ → Type 0) → P 1 → P 2 → P 3 → (j : ℕ) → 0 < j → j < 4 → P j
three_inner P h i k j l m = elim (cases_lt j 3) [ inl n ↦ two_inner P h i j l n | inr n ↦ let e : 3 ≡ j = omega arith in subst P e k ]

record Next (t : List ℕ) : Type 0 where
  width : ℕ
  char : ℕ
  ok : is_char char ≡ true
  begins : Begins YAML_UTF8_ENCODING char t
  size : width ≡ len_utf8 char
  some : 0 < width
  inner : (j : ℕ) → 0 < j → j < width → continues (get_or t j 0) ≡ true
  after : Starts (drop width t)

-- four windows in a row, the first of them at the start of a character
record Clean4 (a b c d : ℕ) (more : List ℕ) : Type 0 where
  starts : Starts (a ∷ b ∷ c ∷ d ∷ more)
  one : Clean a b c d
  two : Clean b c d (get_or more 0 0)
  three : Clean c d (get_or more 0 0) (get_or more 1 0)
  four : Clean d (get_or more 0 0) (get_or more 1 0) (get_or more 2 0)

module _ (a b c d : ℕ) (more : List ℕ) (w : Clean4 a b c d more) where
  next_one : a < 0x80 → Next (a ∷ b ∷ c ∷ d ∷ more)
  next_one h =
      let r = reads1 a (b ∷ c ∷ d ∷ more) h in
      let f = fresh 0 0 a b c d (omega arith) (omega arith) (omega arith) w.starts.second w.starts.third w.one.next in
      record {
        width = 1;
        char = a;
        ok = char_one a h w.one.control;
        begins = r.begins;
        size = r.width;
        some = omega arith;
        inner = λ j l m. absurd (omega arith);
        after = record { first = f.first; second = f.second; third = f.third };
      }

  next_two : 0xC0 ≤ a → a < 0xE0 → Next (a ∷ b ∷ c ∷ d ∷ more)
  next_two l h =
      let second = after_lead b 0 0 a w.starts.second l in
      let bound = continued b second in
      let v = a % 32 * 64 + b % 64 in
      let least = char_two a b (rare_parts a b w.one.rare) l h bound.0 bound.1 in
      let r = reads2 a b (c ∷ d ∷ more) l h (stray_two a b (c ∷ d ∷ more) second) (omega arith) (omega arith) in
      let f = fresh 0 a b c d (get_or more 0 0) (omega arith) h bound.1 w.starts.third w.one.next w.two.next in
      record {
        width = 2;
        char = v;
        ok = char_low v least (omega arith);
        begins = r.begins;
        size = r.width;
        some = omega arith;
        inner = one_inner (λ j. continues (get_or (a ∷ b ∷ c ∷ d ∷ more) j 0) ≡ true) second;
        after = record { first = f.first; second = f.second; third = f.third };
      }

  next_three : 0xE0 ≤ a → a < 0xF0 → Next (a ∷ b ∷ c ∷ d ∷ more)
  next_three l h =
      let second = after_lead b 0 0 a w.starts.second (omega arith) in
      let third = after_two c 0 a b w.starts.third l in
      let m = continued b second in
      let n = continued c third in
      let v = a % 16 * 4096 + b % 64 * 64 + c % 64 in
      let is = char_three a b c (rare_parts a b w.one.rare) l h m.0 m.1 n.0 n.1 in
      let r = reads3 a b c (d ∷ more) l h (stray_three a b c (d ∷ more) second third) is.0 (omega arith) in
      let f = fresh a b c d (get_or more 0 0) (get_or more 1 0) h (omega arith) n.1 w.one.next w.two.next w.three.next in
      record {
        width = 3;
        char = v;
        ok = is.1;
        begins = r.begins;
        size = r.width;
        some = omega arith;
        inner = two_inner (λ j. continues (get_or (a ∷ b ∷ c ∷ d ∷ more) j 0) ≡ true) second third;
        after = record { first = f.first; second = f.second; third = f.third };
      }

  next_four : 0xF0 ≤ a → Next (a ∷ b ∷ c ∷ d ∷ more)
  next_four l =
      let second = after_lead b 0 0 a w.starts.second (omega arith) in
      let third = after_two c 0 a b w.starts.third (omega arith) in
      let fourth = after_three d a b c w.one.next l in
      let m = continued b second in
      let n = continued c third in
      let o = continued d fourth in
      let rare = rare_parts a b w.one.rare in
      let v = a % 8 * 262144 + b % 64 * 4096 + c % 64 * 64 + d % 64 in
      let is = char_four a b c d rare l m.0 m.1 in
      let top = rare.top in
      let r = reads4 a b c d more l (omega arith) (stray_four a b c d more second third fourth) is.0 is.1 in
      let f = fresh b c d (get_or more 0 0) (get_or more 1 0) (get_or more 2 0) (omega arith) (omega arith) o.1 w.two.next w.three.next w.four.next in
      record {
        width = 4;
        char = v;
        ok = char_far v is.0 is.1;
        begins = r.begins;
        size = r.width;
        some = omega arith;
        inner = three_inner (λ j. continues (get_or (a ∷ b ∷ c ∷ d ∷ more) j 0) ≡ true) second third fourth;
        after = record { first = f.first; second = f.second; third = f.third };
      }

  next_any : Next (a ∷ b ∷ c ∷ d ∷ more)
  next_any =
      elim (starting a w.starts.first) [
        | inl low ↦ next_one low
        | inr lead ↦ elim (cases_lt a 0xE0) [
          | inl x ↦ next_two lead x
          | inr x ↦ elim (cases_lt a 0xF0) [ inl y ↦ next_three x y | inr y ↦ next_four y ]
        ]
      ]

next : (t : List ℕ) → 4 ≤ length t → Starts t → AreClean t 4 → Next t
next [] l s k = absurd (omega arith)
next (a ∷ []) l s k = absurd (omega arith)
next (a ∷ b ∷ []) l s k = absurd (omega arith)
next (a ∷ b ∷ c ∷ []) l s k = absurd (omega arith)
next (a ∷ b ∷ c ∷ d ∷ more) l s k =
    next_any a b c d more record {
      starts = s;
      one = clean _ _ _ _ (k 0 (omega arith));
      two = clean _ _ _ _ (k 1 (omega arith));
      three = clean _ _ _ _ (k 2 (omega arith));
      four = clean _ _ _ _ (k 3 (omega arith));
    }

-- ---- the characters up to a byte that begins one

-- the first k bytes, where so many are before the end of the last of n clean windows
module _ (bytes : List ℕ) (n k : ℕ) (clean-n : AreClean bytes n) (room : n ≤ length bytes) (before : k + 3 ≤ n) (lead : continues (get_or bytes k 0) ≡ false) where
  walk : (fuel at : ℕ) → at ≤ k → k ≤ at + fuel → IsText (take at bytes) → Starts (drop at bytes) → IsText (take k bytes)
  walk zero at le few t s = let e : at ≡ k = omega arith in subst (λ i. IsText (take i bytes)) e t
  walk (suc fuel) at le few t s =
      elim (cases_lt at k) [
        | inr done ↦ let e : at ≡ k = omega arith in subst (λ i. IsText (take i bytes)) e t
        | inl more ↦
            let windows : AreClean (drop at bytes) 4 = λ j lt. ap is_suspect (drop-drop j at bytes) ∙ clean-n (at + j) (omega arith) in
            let x = next (drop at bytes) (omega (arith, length-drop at bytes)) s windows in
            let grown = front_grows bytes at x.width x.char (omega arith) t x.ok x.begins x.size in
            let s-after : Starts (drop (at + x.width) bytes) = subst (λ (l : List ℕ). Starts l) (drop-drop x.width at bytes) x.after in
            elim (cases_lt k (at + x.width)) [
              | inl cut ↦
                  let e : at + (k - at) ≡ k = omega arith in
                  let in-it = x.inner (k - at) (omega arith) (omega arith) in
                  let there : continues (get_or bytes k 0) ≡ true = ap (λ i. continues (get_or bytes i 0)) (sym e) ∙ ap continues (sym (get_or-drop at bytes (k - at) 0)) ∙ in-it in
                  absurd (true≢false (sym there ∙ lead))
              | inr whole ↦ let p = x.some in walk fuel (at + x.width) whole (omega arith) grown.1 s-after
            ]
      ]

pub whole_front : (bytes : List ℕ) (n k : ℕ) → Starts bytes → AreClean bytes n → n ≤ length bytes → k + 3 ≤ n → (0 < k → continues (get_or bytes k 0) ≡ false) → IsText (take k bytes)
whole_front bytes n k s clean-n room before lead =
    elim (cases_lt 0 k) [
      | inl some ↦ walk bytes n k clean-n room before (lead some) k 0 (omega arith) (omega arith) IsText-nil s
      | inr none ↦ let e : 0 ≡ k = omega arith in subst (λ i. IsText (take i bytes)) e IsText-nil
    ]

pub clean_more : (bytes : List ℕ) (n m : ℕ) → AreClean bytes n → AreClean (drop n bytes) m → AreClean bytes (n + m)
clean_more bytes n m front after k lt =
    elim (cases_lt k n) [
      | inl l ↦ front k l
      | inr l ↦ let e : n + (k - n) ≡ k = omega arith in ap is_suspect (ap (λ i. drop i bytes) (sym e) ∙ sym (drop-drop (k - n) n bytes)) ∙ after (k - n) (omega arith)
    ]

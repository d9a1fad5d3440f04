-- At the start of a character, and at the end, the byte table of each class is its set of characters.
use Rattle.std.proofs.Common.{◌≡◌, ℕ, ◌+◌, ◌/◌, ◌%◌, ◌<◌, ◌≤◌, ◌⊎◌, ◌==◌, Bool, true, false, List, [], ◌∷◌, ◌++◌, get_or, drop, add-zero, refl, sym, ap, ◌∙◌, subst, arith, inl, inr}
use Rattle.std.proofs.lemmas.Bool.{cases_lt, cases_eq, ne_eqb}
use Rattle.std.proofs.lemmas.Bool.Decides.{nat_tests}
use Rattle.std.proofs.lemmas.List.{get_or-drop, drop_all}
use Rattle.std.proofs.lemmas.Str.{encode_ascii}
use lib.Utf8.{encode}
use Rattle.yaml_text.specs.Chars.{utf8}
use Rattle.yaml_text.specs.TextBytes.{AreChars}
use Rattle.std.specs.Char.{len_utf8, IsScalar}
use Rattle.yaml_text.specs.Utf8.{width_of}
use Rattle.yaml_text.specs.Classes.{is_digit, is_hex, is_alpha, is_z, is_space, is_tab, is_break, is_blank, is_crlf}
use Rattle.yaml_text.specs.ClassCalls.{Stands, is_ascii, is_bom, is_bom_by, is_bom_at, is_breakz, is_breakz_at}
use Rattle.yaml_text.specs.ClassCalls.{is_blankz, is_blankz_at, is_break_by, is_break_at, is_crlf_at, is_printable}
use Rattle.yaml_text.specs.ClassCalls.{is_printable_by, is_printable_at}
use Rattle.yaml_text.proofs.Characters.Utf8Spelling.{two, three, four}
use Rattle.yaml_text.proofs.Characters.CharRanges.{char_range}

-- how the first three bytes follow from the first character, which is 0 at the end
abbrev pub Leads : ℕ → ℕ → ℕ → ℕ → Type 0
Leads c a b d =
    ((c < 128) × (a ≡ c)) ⊎ (((128 ≤ c) × (c < 2048) × (a ≡ 192 + c / 64) × (b ≡ 128 + c % 64))
    ⊎ (((2048 ≤ c) × (c < 65536) × (a ≡ 224 + c / 4096) × (b ≡ 128 + c / 64 % 64) × (d ≡ 128 + c % 64))
    ⊎ ((65536 ≤ c) × (c < 0x110000) × (a ≡ 240 + c / 262144) × (b ≡ 128 + c / 4096 % 64) × (d ≡ 128 + c / 64 % 64))))

scalar_less : (c : ℕ) → IsScalar c → c < 0x110000
scalar_less c h = grind (arith, nat_tests)

first_leads : (c : ℕ) (more : List ℕ) → c < 0x110000 → Leads c (get_or (encode c ++ more) 0 0) (get_or (encode c ++ more) 1 0) (get_or (encode c ++ more) 2 0)
first_leads c more h =
    elim (cases_lt c 128) [
      | inl a ↦ rw (encode_ascii c a) (inl (a, refl))
      | inr a ↦ elim (cases_lt c 2048) [
        | inl b ↦ rw (two c a b) (inr (inl (a, b, refl, refl)))
        | inr b ↦ elim (cases_lt c 65536) [
          | inl d ↦ rw (three c b d) (inr (inr (inl (b, d, refl, refl, refl))))
          | inr d ↦ rw (four c d) (inr (inr (inr (d, h, refl, refl, refl))))
        ]
      ]
    ]

pub leads : (left : List ℕ) → AreChars left → Leads (get_or left 0 0) (get_or (utf8 left) 0 0) (get_or (utf8 left) 1 0) (get_or (utf8 left) 2 0)
leads [] h = inl (omega arith, refl)
leads (c ∷ cs) h = let r = char_range c h.0 in first_leads c (utf8 cs) (omega (arith, r.1))

byte_after : (s : List ℕ) (at k : ℕ) → get_or s (at + k) 0 ≡ get_or (drop at s) k 0
byte_after s at k = sym (get_or-drop at s k 0)

byte_there : (s : List ℕ) (at : ℕ) → get_or s at 0 ≡ get_or (drop at s) 0 0
byte_there s at = ap (λ n. get_or s n 0) (sym (add-zero at)) ∙ byte_after s at 0

pub bytes_lead : (s : List ℕ) (at c : ℕ) → Stands s at c → Leads c (get_or s at 0) (get_or s (at + 1) 0) (get_or s (at + 2) 0)
bytes_lead s at c h = rw (byte_there s at, byte_after s at 1, byte_after s at 2) (elim h [
  | inl x ↦ rw x.2 (first_leads c x.1 (scalar_less c x.0))
  | inr x ↦ rw (drop_all at s x.0, x.1) (inl (omega arith, refl))
])

break_table1 : (c a b d : ℕ) → c < 128 → a ≡ c → is_break_by a b d ≡ is_break c
break_table1 c a b d h e = grind (arith, nat_tests)

break_table2 : (c a b d : ℕ) → 128 ≤ c → c < 2048 → a ≡ 192 + c / 64 → b ≡ 128 + c % 64 → is_break_by a b d ≡ is_break c
break_table2 c a b d l h e f = grind (arith, nat_tests)

break_table4 : (c a b d : ℕ) → 65536 ≤ c → 240 ≤ a → is_break_by a b d ≡ is_break c
break_table4 c a b d l h = grind (arith, nat_tests)

break_table3 : (c a b d : ℕ) → 2048 ≤ c → c < 65536 → a ≡ 224 + c / 4096 → b ≡ 128 + c / 64 % 64 → d ≡ 128 + c % 64 → is_break_by a b d ≡ is_break c
break_table3 c a b d l h e f g = grind (arith, nat_tests)

break_table : (c a b d : ℕ) → Leads c a b d → is_break_by a b d ≡ is_break c
break_table c a b d h = elim h [
  | inl x ↦ break_table1 c a b d x.0 x.1
  | inr y ↦ elim y [
    | inl x ↦ break_table2 c a b d x.0 x.1 x.2 x.3
    | inr z ↦ elim z [ inl x ↦ break_table3 c a b d x.0 x.1 x.2 x.3 x.4 | inr x ↦ break_table4 c a b d x.0 (omega (arith, x.2)) ]
  ]
]

pub break_law : (s : List ℕ) (at c : ℕ) → Stands s at c → is_break_at s at ≡ is_break c
break_law s at c h = break_table _ _ _ _ (bytes_lead s at c h)

bom1 : (c a b d : ℕ) → c < 128 → a ≡ c → is_bom_by a b d ≡ is_bom c
bom1 c a b d h e = grind (arith, nat_tests)

bom2 : (c a b d : ℕ) → 128 ≤ c → c < 2048 → a ≡ 192 + c / 64 → is_bom_by a b d ≡ is_bom c
bom2 c a b d l h e = grind (arith, nat_tests)

bom3 : (c a b d : ℕ) → 2048 ≤ c → c < 65536 → a ≡ 224 + c / 4096 → b ≡ 128 + c / 64 % 64 → d ≡ 128 + c % 64 → is_bom_by a b d ≡ is_bom c
bom3 c a b d l h e f g = grind (arith, nat_tests)

bom4 : (c a b d : ℕ) → 65536 ≤ c → 240 ≤ a → is_bom_by a b d ≡ is_bom c
bom4 c a b d l h = grind (arith, nat_tests)

width1 : (c a : ℕ) → c < 128 → a ≡ c → width_of a ≡ len_utf8 c
width1 c a h e = grind (arith, nat_tests)

width2 : (c a : ℕ) → 128 ≤ c → c < 2048 → a ≡ 192 + c / 64 → width_of a ≡ len_utf8 c
width2 c a l h e = grind (arith, nat_tests)

width3 : (c a : ℕ) → 2048 ≤ c → c < 65536 → a ≡ 224 + c / 4096 → width_of a ≡ len_utf8 c
width3 c a l h e = grind (arith, nat_tests)

width4 : (c a : ℕ) → 65536 ≤ c → c < 0x110000 → a ≡ 240 + c / 262144 → width_of a ≡ len_utf8 c
width4 c a l h e = grind (arith, nat_tests)

-- the first byte decides a class below 128
low_table : (test : ℕ → Bool) → ((n : ℕ) → 128 ≤ n → test n ≡ false) → (c a b d : ℕ) → Leads c a b d → test a ≡ test c
low_table test high c a b d h =
    elim h [
      | inl x ↦ ap test x.1
      | inr y ↦ elim y [
        | inl x ↦ high a (omega (arith, x.2)) ∙ sym (high c x.0)
        | inr z ↦ elim z [ inl x ↦ high a (omega (arith, x.2)) ∙ sym (high c (omega (arith, x.0))) | inr x ↦ high a (omega (arith, x.2)) ∙ sym (high c (omega (arith, x.0))) ]
      ]
    ]

low_law : (test : ℕ → Bool) → ((n : ℕ) → 128 ≤ n → test n ≡ false) → (s : List ℕ) (at c : ℕ) → Stands s at c → test (get_or s at 0) ≡ test c
low_law test high s at c h = low_table test high _ _ _ _ (bytes_lead s at c h)

high_digit : (n : ℕ) → 128 ≤ n → is_digit n ≡ false
high_digit n h = grind (arith, nat_tests)

high_hex : (n : ℕ) → 128 ≤ n → is_hex n ≡ false
high_hex n h = grind (arith, nat_tests)

high_alpha : (n : ℕ) → 128 ≤ n → is_alpha n ≡ false
high_alpha n h = grind (arith, nat_tests)

high_ascii : (n : ℕ) → 128 ≤ n → is_ascii n ≡ false
high_ascii n h = grind (arith, nat_tests)

high_z : (n : ℕ) → 128 ≤ n → is_z n ≡ false
high_z n h = grind (arith, nat_tests)

high_space : (n : ℕ) → 128 ≤ n → is_space n ≡ false
high_space n h = grind (arith, nat_tests)

high_tab : (n : ℕ) → 128 ≤ n → is_tab n ≡ false
high_tab n h = grind (arith, nat_tests)

pub high_blank : (n : ℕ) → 128 ≤ n → is_blank n ≡ false
high_blank n h = grind (arith, nat_tests)

pub digit_law : (s : List ℕ) (at c : ℕ) → Stands s at c → is_digit (get_or s at 0) ≡ is_digit c
digit_law s at c h = low_law is_digit high_digit s at c h

pub hex_law : (s : List ℕ) (at c : ℕ) → Stands s at c → is_hex (get_or s at 0) ≡ is_hex c
hex_law s at c h = low_law is_hex high_hex s at c h

pub alpha_law : (s : List ℕ) (at c : ℕ) → Stands s at c → is_alpha (get_or s at 0) ≡ is_alpha c
alpha_law s at c h = low_law is_alpha high_alpha s at c h

pub ascii_law : (s : List ℕ) (at c : ℕ) → Stands s at c → is_ascii (get_or s at 0) ≡ is_ascii c
ascii_law s at c h = low_law is_ascii high_ascii s at c h

pub z_law : (s : List ℕ) (at c : ℕ) → Stands s at c → is_z (get_or s at 0) ≡ is_z c
z_law s at c h = low_law is_z high_z s at c h

pub space_law : (s : List ℕ) (at c : ℕ) → Stands s at c → is_space (get_or s at 0) ≡ is_space c
space_law s at c h = low_law is_space high_space s at c h

pub tab_law : (s : List ℕ) (at c : ℕ) → Stands s at c → is_tab (get_or s at 0) ≡ is_tab c
tab_law s at c h = low_law is_tab high_tab s at c h

pub blank_law : (s : List ℕ) (at c : ℕ) → Stands s at c → is_blank (get_or s at 0) ≡ is_blank c
blank_law s at c h = low_law is_blank high_blank s at c h

-- if a class below 128 holds, the character is its byte
pub low_same : (c a b d : ℕ) → Leads c a b d → a < 128 → a ≡ c
low_same c a b d h low = omega (arith, h)

low_hex : (b : ℕ) → is_hex b ≡ true → b < 128
low_hex b h = grind (arith, nat_tests)

low_digit : (b : ℕ) → is_digit b ≡ true → b < 128
low_digit b h = grind (arith, nat_tests)

pub same_hex : (s : List ℕ) (at c : ℕ) → Stands s at c → is_hex (get_or s at 0) ≡ true → get_or s at 0 ≡ c
same_hex s at c h hex = low_same _ _ _ _ (bytes_lead s at c h) (low_hex _ hex)

pub same_digit : (s : List ℕ) (at c : ℕ) → Stands s at c → is_digit (get_or s at 0) ≡ true → get_or s at 0 ≡ c
same_digit s at c h digit = low_same _ _ _ _ (bytes_lead s at c h) (low_digit _ digit)

bom_table : (c a b d : ℕ) → Leads c a b d → is_bom_by a b d ≡ is_bom c
bom_table c a b d h = elim h [
  | inl x ↦ bom1 c a b d x.0 x.1
  | inr y ↦ elim y [
    | inl x ↦ bom2 c a b d x.0 x.1 x.2
    | inr z ↦ elim z [ inl x ↦ bom3 c a b d x.0 x.1 x.2 x.3 x.4 | inr x ↦ bom4 c a b d x.0 (omega (arith, x.2)) ]
  ]
]

pub bom_law : (s : List ℕ) (at c : ℕ) → Stands s at c → is_bom_at s at ≡ is_bom c
bom_law s at c h = bom_table _ _ _ _ (bytes_lead s at c h)

pub breakz_law : (s : List ℕ) (at c : ℕ) → Stands s at c → is_breakz_at s at ≡ is_breakz c
breakz_law s at c h = rw (break_law s at c h, z_law s at c h) refl

pub blankz_law : (s : List ℕ) (at c : ℕ) → Stands s at c → is_blankz_at s at ≡ is_blankz c
blankz_law s at c h = rw (blank_law s at c h, break_law s at c h, z_law s at c h) refl

width_table : (c a b d : ℕ) → Leads c a b d → width_of a ≡ len_utf8 c
width_table c a b d h = elim h [
  | inl x ↦ width1 c a x.0 x.1
  | inr y ↦ elim y [
    | inl x ↦ width2 c a x.0 x.1 x.2
    | inr z ↦ elim z [ inl x ↦ width3 c a x.0 x.1 x.2 | inr x ↦ width4 c a x.0 x.1 x.2 ]
  ]
]

pub width_law : (s : List ℕ) (at c : ℕ) → Stands s at c → width_of (get_or s at 0) ≡ len_utf8 c
width_law s at c h = width_table _ _ _ _ (bytes_lead s at c h)

-- a character below 128 is its byte
pub code_table : (k c a b d : ℕ) → k < 128 → Leads c a b d → (a == k) ≡ (c == k)
code_table k c a b d lt h = grind (arith, nat_tests)

pub crlf_law : (s : List ℕ) (at c d : ℕ) → Stands s at c → Stands s (at + len_utf8 c) d → is_crlf_at s at ≡ is_crlf c d
crlf_law s at c d h k =
    let first : (get_or s at 0 == 13) ≡ (c == 13) = code_table 13 _ _ _ _ (omega arith) (bytes_lead s at c h) in
    elim (cases_eq c 13) [
      | inl e ↦
          let one : at + len_utf8 c ≡ at + 1 = ap (λ n. at + len_utf8 n) e in
          let there : Stands s (at + 1) d = subst (λ n. Stands s n d) one k in
          rw (first, code_table 10 _ _ _ _ (omega arith) (bytes_lead s (at + 1) d there)) refl
      | inr n ↦ rw (first, ne_eqb c 13 n) refl
    ]

printable_table1 : (c a b d : ℕ) → c < 128 → a ≡ c → is_printable_by a b d ≡ is_printable c
printable_table1 c a b d h e = grind (arith, nat_tests)

printable_table2 : (c a b d : ℕ) → 128 ≤ c → c < 2048 → a ≡ 192 + c / 64 → b ≡ 128 + c % 64 → is_printable_by a b d ≡ is_printable c
printable_table2 c a b d l h e f = grind (arith, nat_tests)

printable_table4 : (c a b d : ℕ) → 65536 ≤ c → c < 0x110000 → a ≡ 240 + c / 262144 → is_printable_by a b d ≡ is_printable c
printable_table4 c a b d l h e = grind (arith, nat_tests)

printable_low : (c a b d : ℕ) → 2048 ≤ c → c < 0xD000 → a ≡ 224 + c / 4096 → is_printable_by a b d ≡ is_printable c
printable_low c a b d l h e = grind (arith, nat_tests)

scalar_low : (c : ℕ) → IsScalar c → c < 0xE000 → c < 0xD800
scalar_low c h l = grind (arith, nat_tests)

printable_ed : (c a b d : ℕ) → IsScalar c → 0xD000 ≤ c → c < 0xE000 → a ≡ 237 → b ≡ 128 + c / 64 % 64 → is_printable_by a b d ≡ is_printable c
printable_ed c a b d ok l h e f = let low : c < 0xD800 = scalar_low c ok h in grind (arith, nat_tests)

printable_ee : (c a b d : ℕ) → 0xE000 ≤ c → c < 0xF000 → a ≡ 238 → is_printable_by a b d ≡ is_printable c
printable_ee c a b d l h e = grind (arith, nat_tests)

printable_ef : (c a b d : ℕ) → 0xF000 ≤ c → c < 0x10000 → a ≡ 239 → b ≡ 128 + c / 64 % 64 → d ≡ 128 + c % 64 → is_printable_by a b d ≡ is_printable c
printable_ef c a b d l h e f g = grind (arith, nat_tests)

printable_table3 : (c a b d : ℕ) → IsScalar c → 2048 ≤ c → c < 65536 → a ≡ 224 + c / 4096 → b ≡ 128 + c / 64 % 64 → d ≡ 128 + c % 64 → is_printable_by a b d ≡ is_printable c
printable_table3 c a b d ok l h e f g =
    elim (cases_lt c 0xD000) [
      | inl x ↦ printable_low c a b d l x e
      | inr x ↦ elim (cases_lt c 0xE000) [
        | inl y ↦ printable_ed c a b d ok x y (omega arith) f
        | inr y ↦ elim (cases_lt c 0xF000) [ inl z ↦ printable_ee c a b d y z (omega arith) | inr z ↦ printable_ef c a b d z h (omega arith) f g ]
      ]
    ]

printable_table : (c a b d : ℕ) → IsScalar c → Leads c a b d → is_printable_by a b d ≡ is_printable c
printable_table c a b d ok h = elim h [
  | inl x ↦ printable_table1 c a b d x.0 x.1
  | inr y ↦ elim y [
    | inl x ↦ printable_table2 c a b d x.0 x.1 x.2 x.3
    | inr z ↦ elim z [
      | inl x ↦ printable_table3 c a b d ok x.0 x.1 x.2 x.3 x.4
      | inr x ↦ printable_table4 c a b d x.0 x.1 x.2
    ]
  ]
]

scalar_there : (s : List ℕ) (at c : ℕ) → Stands s at c → IsScalar c
scalar_there s at c h = elim h [ inl x ↦ x.0 | inr x ↦ rw x.1 refl ]

pub printable_law : (s : List ℕ) (at c : ℕ) → Stands s at c → is_printable_at s at ≡ is_printable c
printable_law s at c h = printable_table _ _ _ _ (scalar_there s at c h) (bytes_lead s at c h)

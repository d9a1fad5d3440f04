-- A run of bytes that end nothing is a run of whole characters of the class.
use Rattle.std.proofs.Common.{◌≡◌, ℕ, zero, suc, ◌+◌, ◌/◌, ◌<◌, ◌≤◌, ◌⊎◌, Bool, true, false, cond, List, [], ◌∷◌, ◌++◌, length, get_or, take, drop, refl, sym, ap, ◌∙◌, subst, arith, inl, inr}
use Rattle.std.specs.List.{prefix_len, count_by}
use Rattle.std.proofs.lemmas.Bool.{cases_lt, cases_Bool, true≢false}
use Rattle.std.proofs.lemmas.Bool.Decides.{nat_tests}
use Rattle.std.proofs.lemmas.Str.{encode_ascii, length-encode, len_utf8_bounds}
use Rattle.std.proofs.lemmas.List.{length-append}
use Rattle.std.proofs.lemmas.List.Sums.{sum_by-cons}
use Rattle.std.specs.Char.{len_utf8}
use lib.Utf8.{encode, next}
use Rattle.yaml_text.specs.declared.types.yaml_mark_t.{yaml_mark_t}
use Rattle.yaml_text.specs.Chars.{utf8}
use Rattle.yaml_text.specs.TextBytes.{AreChars}
use Rattle.yaml_text.specs.Classes.{is_break}
use Rattle.yaml_text.proofs.Characters.Utf8Spelling.{two, three, four}
use Rattle.yaml_text.proofs.Characters.CharRanges.{char_range}
use Rattle.yaml_lexeme.specs.inside.Moves.{skip_from, mark_after}
use Rattle.yaml_lexeme.specs.declared.runs.class_t.{class_t}
use Rattle.yaml_lexeme.specs.declared.runs.class_t.TheVariants.{BLANK, GAP_BLANK, SPACE, BLANK_OR_BREAK, ALPHA, URI}
use Rattle.yaml_lexeme.specs.inside.Runs.{is_quiet, class_test, begins, may_break, is_line}

-- What bytes that are quiet for a test of characters may be: either all of them are ASCII, or all that continue a
-- character are quiet.
abbrev Low : (ℕ → Bool) → Type 0
Low q = (b : ℕ) → q b ≡ true → b < 128

abbrev High : (ℕ → Bool) → Type 0
High q = (b : ℕ) → 128 ≤ b → b < 192 → q b ≡ true

-- A class of a line: it takes each character above ASCII that is no break.
record Wide (class : class_t) : Type 0 where
  pub line : is_line class ≡ true
  pub high : High (is_quiet class)
  pub lead : (b : ℕ) → is_quiet class b ≡ true → may_break b ≡ false
  pub takes : (c : ℕ) → 128 ≤ c → is_break c ≡ false → class_test class c ≡ true

uri_low : (listed : Bool) → Low (is_quiet (URI listed))
uri_low true b h = grind (arith, nat_tests)
uri_low false b h = grind (arith, nat_tests)

low_or_wide : (class : class_t) → Low (is_quiet class) ⊎ Wide class
low_or_wide BLANK = inl (λ b h. grind (arith, nat_tests))
low_or_wide (GAP_BLANK tabs) = inl (λ b h. grind (arith, nat_tests))
low_or_wide SPACE = inl (λ b h. grind (arith, nat_tests))
low_or_wide BLANK_OR_BREAK = inl (λ b h. grind (arith, nat_tests))
low_or_wide ALPHA = inl (λ b h. grind (arith, nat_tests))
low_or_wide (URI listed) = inl (λ b h. uri_low listed b h)
low_or_wide class = inr (record {
  line = refl;
  high = λ b l h. grind (arith, nat_tests);
  lead = λ b h. grind (arith, nat_tests);
  takes = λ c l h. grind (arith, nat_tests);
})

pub next_range : (c : ℕ) → (128 ≤ next c) × (next c < 192)
next_range c = (omega arith, omega arith)

abbrev OverChar : (ℕ → Bool) → ℕ → List ℕ → Type 0
OverChar q c more = prefix_len q (encode c ++ more) ≡ length (encode c) + prefix_len q more

-- the bytes of a character whose first is quiet
quiet_high : (q : ℕ → Bool) → High q → (c : ℕ) (more : List ℕ) → q (get_or (encode c) 0 0) ≡ true → OverChar q c more
quiet_high q high c more h =
    elim (cases_lt c 128) [
      | inl a ↦ quiet1 (encode_ascii c a)
      | inr a ↦ elim (cases_lt c 2048) [
        | inl b ↦ quiet2 (two c a b)
        | inr b ↦ elim (cases_lt c 65536) [ inl d ↦ quiet3 (three c b d) | inr d ↦ quiet4 (four c d) ]
      ]
    ]
  where
    on : (d : ℕ) → q (next d) ≡ true
    on d = let r = next_range d in high (next d) r.0 r.1

    quiet1 : encode c ≡ c ∷ [] → OverChar q c more
    quiet1 e = let f : q c ≡ true = ap (λ (x : List ℕ). q (get_or x 0 0)) (sym e) ∙ h in rw (e, f) refl

    quiet2 : encode c ≡ (192 + c / 64) ∷ next c ∷ [] → OverChar q c more
    quiet2 e = let f : q (192 + c / 64) ≡ true = ap (λ (x : List ℕ). q (get_or x 0 0)) (sym e) ∙ h in rw (e, f, on c) (omega arith)

    quiet3 : encode c ≡ (224 + c / 4096) ∷ next (c / 64) ∷ next c ∷ [] → OverChar q c more
    quiet3 e = let f : q (224 + c / 4096) ≡ true = ap (λ (x : List ℕ). q (get_or x 0 0)) (sym e) ∙ h in rw (e, f, on c, on (c / 64)) (omega arith)

    quiet4 : encode c ≡ (240 + c / 262144) ∷ next (c / 4096) ∷ next (c / 64) ∷ next c ∷ [] → OverChar q c more
    quiet4 e = let f : q (240 + c / 262144) ≡ true = ap (λ (x : List ℕ). q (get_or x 0 0)) (sym e) ∙ h in rw (e, f, on c, on (c / 64), on (c / 4096)) (omega arith)

-- the first byte of a character beyond ASCII
pub lead_high : (c : ℕ) → 128 ≤ c → 192 ≤ get_or (encode c) 0 0
lead_high c l =
    elim (cases_lt c 2048) [
      | inl b ↦ rw (two c l b) (omega arith)
      | inr b ↦ elim (cases_lt c 65536) [ inl d ↦ rw (three c b d) (omega arith) | inr d ↦ rw (four c d) (omega arith) ]
    ]

quiet_low : (q : ℕ → Bool) → Low q → (c : ℕ) (more : List ℕ) → q (get_or (encode c) 0 0) ≡ true → OverChar q c more
quiet_low q low c more h =
    elim (cases_lt c 128) [
      | inl a ↦ let e = encode_ascii c a in let f : q c ≡ true = ap (λ (x : List ℕ). q (get_or x 0 0)) (sym e) ∙ h in rw (e, f) refl
      | inr a ↦ absurd (omega (arith, low _ h, lead_high c a))
    ]

quiet_char : (class : class_t) (c : ℕ) (more : List ℕ) → is_quiet class (get_or (encode c) 0 0) ≡ true → OverChar (is_quiet class) c more
quiet_char class c more h = elim (low_or_wide class) [ inl low ↦ quiet_low (is_quiet class) low c more h | inr wide ↦ quiet_high (is_quiet class) wide.high c more h ]

-- ---- what a quiet lead says of its character

abbrev pub Passes : class_t → ℕ → Type 0
Passes class c = (class_test class c ≡ true) × (is_break c ≡ false)

passes_ascii : (class : class_t) (c : ℕ) → 0 < c → c < 128 → is_quiet class c ≡ true → Passes class c
passes_ascii BLANK c s a h = (grind (arith, nat_tests), grind (arith, nat_tests))
passes_ascii class c s a h = (grind (arith, nat_tests), grind (arith, nat_tests))

no_break2 : (c : ℕ) → 128 ≤ c → c < 2048 → may_break (192 + c / 64) ≡ false → is_break c ≡ false
no_break2 c l h e = grind (arith, nat_tests)

no_break3 : (c : ℕ) → 2048 ≤ c → c < 65536 → may_break (224 + c / 4096) ≡ false → is_break c ≡ false
no_break3 c l h e = grind (arith, nat_tests)

pub no_break4 : (c : ℕ) → 65536 ≤ c → is_break c ≡ false
no_break4 c l = grind (arith, nat_tests)

no_break : (c : ℕ) → 128 ≤ c → may_break (get_or (encode c) 0 0) ≡ false → is_break c ≡ false
no_break c l e =
    elim (cases_lt c 2048) [
      | inl b ↦ no_break2 c l b (rw (two c l b) at e)
      | inr b ↦ elim (cases_lt c 65536) [ inl d ↦ no_break3 c b d (rw (three c b d) at e) | inr d ↦ no_break4 c d ]
    ]

pub passes : (class : class_t) (c : ℕ) → 0 < c → is_quiet class (get_or (encode c) 0 0) ≡ true → Passes class c
passes class c s h =
    elim (cases_lt c 128) [
      | inl a ↦ passes_ascii class c s a (ap (λ (x : List ℕ). is_quiet class (get_or x 0 0)) (sym (encode_ascii c a)) ∙ h)
      | inr a ↦ elim (low_or_wide class) [
        | inl low ↦ absurd (omega (arith, low _ h, lead_high c a))
        | inr wide ↦ let none = no_break c a (wide.lead _ h) in (wide.takes c a none, none)
      ]
    ]

-- ---- quiet bytes

abbrev pub along : yaml_mark_t → ℕ → ℕ → yaml_mark_t
along m bytes chars = record { index = m.index + bytes; line = m.line; column = m.column + chars }

-- The first n bytes are characters of the class.
pub record Over (class : class_t) (m : yaml_mark_t) (cs : List ℕ) (n : ℕ) : Type 0 where
  pub front : List ℕ
  pub left : List ℕ
  pub parts : cs ≡ front ++ left
  pub bytes : length (utf8 front) ≡ n
  pub place : skip_from (length front) m cs ≡ record { mark = along m n (length front); rest = left }
  pub goes : prefix_len (class_test class) cs ≡ length front + prefix_len (class_test class) left

after_in_line : (m : yaml_mark_t) (c next : ℕ) → is_break c ≡ false → mark_after m c next ≡ along m (len_utf8 c) 1
after_in_line m c next h = rw h refl

width_is : (c : ℕ) → length (encode c) ≡ len_utf8 c
width_is c = length-encode c

pub nothing_over : (class : class_t) (m : yaml_mark_t) (cs : List ℕ) (n : ℕ) → n ≡ 0 → Over class m cs n
nothing_over class m cs n e = record {
  front = [];
  left = cs;
  parts = refl;
  bytes = sym e;
  place = let i : m.index + n ≡ m.index = omega arith in let k : m.column + 0 ≡ m.column = omega arith in rw (i, k) refl;
  goes = omega arith;
}

pub one_over : (class : class_t) (m : yaml_mark_t) (c : ℕ) (cs : List ℕ) (n : ℕ) → Passes class c → Over class (along m (len_utf8 c) 1) cs n → Over class m (c ∷ cs) (length (encode c) + n)
one_over class m c cs n good o =
    let k : length (c ∷ o.front) ≡ suc (length o.front) = omega arith in
    let i : m.index + len_utf8 c + n ≡ m.index + (length (encode c) + n) = omega (arith, width_is c) in
    let j : m.column + 1 + length o.front ≡ m.column + length (c ∷ o.front) = omega arith in
    let same : along (along m (len_utf8 c) 1) n (length o.front) ≡ along m (length (encode c) + n) (length (c ∷ o.front)) = λ t. record { index = i t; line = m.line; column = j t } in
    let first : mark_after m c (get_or cs 0 0) ≡ along m (len_utf8 c) 1 = after_in_line m c (get_or cs 0 0) good.1 in
    let pass : class_test class c ≡ true = good.0 in
    record {
      front = c ∷ o.front;
      left = o.left;
      parts = ap (λ (x : List ℕ). c ∷ x) o.parts;
      bytes = omega (arith, length-append (encode c) (utf8 o.front), o.bytes);
      place = ap (λ n. skip_from n m (c ∷ cs)) k ∙ ap (λ (x : yaml_mark_t). skip_from (length o.front) x cs) first ∙ o.place ∙ (λ t. record { mark = same t; rest = o.left });
      goes = rw pass (omega (arith, o.goes));
    }

pub lead_of : (c : ℕ) (more : List ℕ) → get_or (encode c ++ more) 0 0 ≡ get_or (encode c) 0 0
lead_of c more =
    elim (cases_lt c 128) [
      | inl a ↦ rw (encode_ascii c a) refl
      | inr a ↦ elim (cases_lt c 2048) [
        | inl b ↦ rw (two c a b) refl
        | inr b ↦ elim (cases_lt c 65536) [ inl d ↦ rw (three c b d) refl | inr d ↦ rw (four c d) refl ]
      ]
    ]

none_in_front : (p : ℕ → Bool) (xs : List ℕ) → 0 < length xs → p (get_or xs 0 0) ≡ false → prefix_len p xs ≡ 0
none_in_front p [] l h = absurd (omega arith)
none_in_front p (x ∷ xs) l h = rw h refl

pub over : (class : class_t) (m : yaml_mark_t) (cs : List ℕ) → AreChars cs → Over class m cs (prefix_len (is_quiet class) (utf8 cs))
over class m [] h = nothing_over class m [] 0 refl
over class m (c ∷ cs) h =
    elim (cases_Bool (is_quiet class (get_or (encode c) 0 0))) [
      | inl good ↦
          let r = char_range c h.0 in
          let o = one_over class m c cs _ (passes class c r.0 good) (over class (along m (len_utf8 c) 1) cs h.1) in
          subst (Over class m (c ∷ cs)) (sym (quiet_char class c (utf8 cs) good)) o
      | inr bad ↦
          let some : 0 < length (utf8 (c ∷ cs)) = omega (arith, length-append (encode c) (utf8 cs), length-encode c, len_utf8_bounds c) in
          nothing_over class m (c ∷ cs) _ (none_in_front (is_quiet class) (utf8 (c ∷ cs)) some (ap (is_quiet class) (lead_of c (utf8 cs)) ∙ bad))
    ]

-- ---- how many characters

count1 : (b : ℕ) → b < 128 → begins b ≡ true
count1 b h = grind (arith, nat_tests)

count_lead : (b : ℕ) → 192 ≤ b → begins b ≡ true
count_lead b h = grind (arith, nat_tests)

pub count_next : (c : ℕ) → begins (next c) ≡ false
count_next c = let r = next_range c in grind (arith, nat_tests)

past_byte : (b : ℕ) (xs : List ℕ) → begins b ≡ false → count_by begins (b ∷ xs) ≡ count_by begins xs
past_byte b xs h =
    let e : count_by begins (b ∷ xs) ≡ cond (begins b) 1 0 + count_by begins xs = sum_by-cons (λ x. cond (begins x) 1 0) b xs in
    let n : ℕ = cond (begins b) 1 0 in
    let f : n ≡ 0 = rw h refl in
    omega (arith, e, f)

pub one_byte : (b : ℕ) (xs : List ℕ) → begins b ≡ true → count_by begins (b ∷ xs) ≡ 1 + count_by begins xs
one_byte b xs h = sum_by-cons (λ x. cond (begins x) 1 0) b xs ∙ ap (λ (t : Bool). cond t 1 0 + count_by begins xs) h

count_one : (c : ℕ) (more : List ℕ) → count_by begins (encode c ++ more) ≡ 1 + count_by begins more
count_one c more =
    let l1 : List ℕ = next c ∷ more in
    let l2 : List ℕ = next (c / 64) ∷ l1 in
    let l3 : List ℕ = next (c / 4096) ∷ l2 in
    let e1 : count_by begins l1 ≡ count_by begins more = past_byte (next c) more (count_next c) in
    let e2 : count_by begins l2 ≡ count_by begins more = past_byte (next (c / 64)) l1 (count_next (c / 64)) ∙ e1 in
    let e3 : count_by begins l3 ≡ count_by begins more = past_byte (next (c / 4096)) l2 (count_next (c / 4096)) ∙ e2 in
    elim (cases_lt c 128) [
      | inl a ↦ rw (encode_ascii c a) (one_byte c more (count1 c a))
      | inr a ↦ elim (cases_lt c 2048) [
        | inl b ↦ rw (two c a b) (one_byte (192 + c / 64) l1 (count_lead (192 + c / 64) (omega arith)) ∙ ap (λ n. 1 + n) e1)
        | inr b ↦ elim (cases_lt c 65536) [
          | inl d ↦ rw (three c b d) (one_byte (224 + c / 4096) l2 (count_lead (224 + c / 4096) (omega arith)) ∙ ap (λ n. 1 + n) e2)
          | inr d ↦ rw (four c d) (one_byte (240 + c / 262144) l3 (count_lead (240 + c / 262144) (omega arith)) ∙ ap (λ n. 1 + n) e3)
        ]
      ]
    ]

-- the bytes that begin a character are as many as the characters
pub count_chars : (cs : List ℕ) → count_by begins (utf8 cs) ≡ length cs
count_chars [] = refl
count_chars (c ∷ cs) = omega (arith, count_one c (utf8 cs), count_chars cs)

-- the quiet bytes of what is no line's class are characters by themselves
quiet_begins : (class : class_t) (b : ℕ) → is_line class ≡ false → is_quiet class b ≡ true → begins b ≡ true
quiet_begins class b n h =
    elim (low_or_wide class) [ inl low ↦ count1 b (low b h) | inr wide ↦ absurd (true≢false (sym wide.line ∙ n)) ]

pub counted_all : (p q : ℕ → Bool) → ((b : ℕ) → q b ≡ true → p b ≡ true) → (xs : List ℕ) → count_by p (take (prefix_len q xs) xs) ≡ prefix_len q xs
counted_all p q all [] = refl
counted_all p q all (x ∷ xs) =
    elim (cases_Bool (q x)) [
      | inl t ↦
          let n = prefix_len q xs in
          let one : 1 + n ≡ suc n = omega arith in
          let step : count_by p (x ∷ take n xs) ≡ 1 + n = sum_by-cons (λ b. cond (p b) 1 0) x (take n xs) ∙ ap (λ b. cond b 1 0 + count_by p (take n xs)) (all x t) ∙ ap (λ k. 1 + k) (counted_all p q all xs) in
          rw (t, one) (step ∙ one)
      | inr f ↦ rw f refl
    ]

pub quiet_counted : (class : class_t) (xs : List ℕ) → is_line class ≡ false → count_by begins (take (prefix_len (is_quiet class) xs) xs) ≡ prefix_len (is_quiet class) xs
quiet_counted class xs h = counted_all begins (is_quiet class) (λ b q. quiet_begins class b h q) xs

-- ---- spaces

high_space : (b : ℕ) → 192 ≤ b → is_quiet SPACE b ≡ false
high_space b h = grind (arith, nat_tests)

-- the first spaces are as many bytes as characters
pub spaces_bytes : (cs : List ℕ) → AreChars cs → prefix_len (is_quiet SPACE) (utf8 cs) ≡ prefix_len (class_test SPACE) cs
spaces_bytes [] h = refl
spaces_bytes (c ∷ cs) h =
    elim (cases_lt c 128) [
      | inl a ↦
          let e : utf8 (c ∷ cs) ≡ c ∷ utf8 cs = ap (λ (x : List ℕ). x ++ utf8 cs) (encode_ascii c a) in
          elim (cases_Bool (class_test SPACE c)) [
            | inl t ↦ let q : is_quiet SPACE c ≡ true = grind (arith, nat_tests) in rw (e, q, t, spaces_bytes cs h.1) refl
            | inr f ↦ let q : is_quiet SPACE c ≡ false = grind (arith, nat_tests) in rw (e, q, f) refl
          ]
      | inr a ↦
          let some : 0 < length (utf8 (c ∷ cs)) = omega (arith, length-append (encode c) (utf8 cs), length-encode c, len_utf8_bounds c) in
          let none : class_test SPACE c ≡ false = grind (arith, nat_tests) in
          none_in_front (is_quiet SPACE) (utf8 (c ∷ cs)) some (ap (is_quiet SPACE) (lead_of c (utf8 cs)) ∙ high_space _ (lead_high c a)) ∙ sym (rw none refl)
    ]

-- The first k spaces are k bytes and k columns.
pub record OverSpaces (m : yaml_mark_t) (cs : List ℕ) (k : ℕ) : Type 0 where
  pub place : skip_from k m cs ≡ record { mark = along m k k; rest = drop k cs }
  pub bytes : drop k (utf8 cs) ≡ utf8 (drop k cs)

pub over_spaces : (m : yaml_mark_t) (cs : List ℕ) (k : ℕ) → k ≤ prefix_len (class_test SPACE) cs → OverSpaces m cs k
over_spaces m cs zero h =
    let i : m.index + 0 ≡ m.index = omega arith in
    let j : m.column + 0 ≡ m.column = omega arith in
    record { place = rw (i, j) refl; bytes = refl }
over_spaces m [] (suc k) h = absurd (omega arith)
over_spaces m (c ∷ cs) (suc k) h =
    elim (cases_Bool (class_test SPACE c)) [
      | inl t ↦
          let is : c ≡ 32 = grind (arith, nat_tests) in
          let low : k ≤ prefix_len (class_test SPACE) cs = omega (arith, rw t at h) in
          let o = over_spaces (along m 1 1) cs k low in
          let first : mark_after m c (get_or cs 0 0) ≡ along m 1 1 = rw is refl in
          let i : m.index + 1 + k ≡ m.index + suc k = omega arith in
          let j : m.column + 1 + k ≡ m.column + suc k = omega arith in
          let e : utf8 (c ∷ cs) ≡ c ∷ utf8 cs = ap (λ (x : List ℕ). x ++ utf8 cs) (encode_ascii c (omega (arith, is))) in
          record {
            place = ap (λ (x : yaml_mark_t). skip_from k x cs) first ∙ o.place ∙ (λ t. record { mark = record { index = i t; line = m.line; column = j t }; rest = drop k cs });
            bytes = ap (λ (x : List ℕ). drop (suc k) x) e ∙ o.bytes;
          }
      | inr f ↦ absurd (omega (arith, rw f at h))
    ]

-- Bytes of a line that end no run: the quiet ones, and those that a break may begin with, but does not.
use Rattle.std.proofs.Common.{◌≡◌, ℕ, zero, suc, ◌+◌, ◌-◌, ◌/◌, ◌<◌, ◌≤◌, Bool, true, false, not, ◌&&◌, ◌==◌, List, [], ◌∷◌, ◌++◌, length, get_or, take, drop, refl, sym, ap, ◌∙◌, subst, arith, inl, inr}
use Rattle.std.specs.List.{prefix_len, count_by}
use Rattle.std.specs.Str.{chars}
use Rattle.std.proofs.lemmas.Bool.{cases_lt, cases_Bool, true≢false}
use Rattle.std.proofs.lemmas.Bool.Decides.{nat_tests}
use Rattle.std.proofs.lemmas.Str.{encode_ascii}
use Rattle.std.proofs.lemmas.List.{get_or-drop, get_or_past, length-drop}
use Rattle.std.proofs.lemmas.List.Sums.{prefix_len_stops, prefix_len-le-length}
use Rattle.std.specs.Char.{len_utf8}
use lib.Utf8.{encode, next}
use Rattle.yaml_text.specs.declared.types.yaml_mark_t.{yaml_mark_t}
use Rattle.yaml_text.specs.Chars.{utf8}
use Rattle.yaml_text.specs.TextBytes.{AreChars, IsText}
use Rattle.yaml_text.specs.Classes.{is_break}
use Rattle.yaml_text.proofs.Characters.Utf8Spelling.{two, three, four}
use Rattle.yaml_text.proofs.Characters.CharRanges.{char_range}
use Rattle.yaml_lexeme.specs.declared.runs.class_t.{class_t}
use Rattle.yaml_lexeme.specs.declared.runs.class_t.TheVariants.{BLANK, GAP_BLANK, SPACE, BLANK_OR_BREAK, ALPHA, URI}
use Rattle.yaml_lexeme.specs.inside.Runs.{is_stop, is_quiet, class_test, begins, is_line, is_false_lead, is_false_lead_of, clear_len, Clear}
use Rattle.yaml_lexeme.proofs.ManyBytes.QuietRuns.{one_byte, Over, Passes, passes, along, nothing_over, one_over, no_break4, count_next}
use Rattle.yaml_lexeme.proofs.ManyBytes.CharacterCounts.{count_part}

-- ---- how many bytes are clear

-- the first byte is clear, and the others are
pub clear_tail : (class : class_t) (b : ℕ) (bs : List ℕ) (n : ℕ) → suc n ≤ clear_len class (b ∷ bs) → (n ≤ clear_len class bs) × ((is_stop class b && not (is_false_lead_of (b ∷ bs))) ≡ false)
clear_tail class b bs n h =
    elim (cases_Bool (is_stop class b && not (is_false_lead_of (b ∷ bs)))) [
      | inl t ↦ absurd (omega (arith, rw t at h))
      | inr f ↦ (omega (arith, rw f at h), f)
    ]

pub clear_add : (class : class_t) (n : ℕ) (xs : List ℕ) → n ≤ clear_len class xs → clear_len class xs ≡ n + clear_len class (drop n xs)
clear_add class zero xs h = omega arith
clear_add class (suc n) [] h = absurd (omega arith)
clear_add class (suc n) (x ∷ xs) h = let t = clear_tail class x xs n h in rw t.1 (omega (arith, clear_add class n xs t.0))

pub quiet_clear : (class : class_t) (xs : List ℕ) → prefix_len (is_quiet class) xs ≤ clear_len class xs
quiet_clear class [] = omega arith
quiet_clear class (x ∷ xs) =
    elim (cases_Bool (is_stop class x)) [
      | inl t ↦ let zero-is : prefix_len (is_quiet class) (x ∷ xs) ≡ 0 = rw t refl in omega (arith, zero-is)
      | inr f ↦ rw f (omega (arith, quiet_clear class xs))
    ]

-- quiet bytes after clear ones
pub clear_more : (class : class_t) (d : List ℕ) (i k : ℕ) → i ≤ clear_len class d → k ≤ prefix_len (is_quiet class) (drop i d) → i + k ≤ clear_len class d
clear_more class d i k h l = omega (arith, clear_add class i d h, quiet_clear class (drop i d))

not_both : (b : Bool) → (b && not true) ≡ false
not_both true = refl
not_both false = refl

lead_clear : (class : class_t) (xs : List ℕ) → is_false_lead_of xs ≡ true → 1 ≤ clear_len class xs
lead_clear class [] h = absurd cc
lead_clear class (x ∷ xs) h =
    let f : (is_stop class x && not (is_false_lead_of (x ∷ xs))) ≡ false = ap (λ b. is_stop class x && not b) h ∙ not_both (is_stop class x) in
    rw f (omega arith)

-- a byte that a break might begin with after clear ones
pub clear_lead : (class : class_t) (d : List ℕ) (i : ℕ) → i ≤ clear_len class d → is_false_lead_of (drop i d) ≡ true → i + 1 ≤ clear_len class d
clear_lead class d i h l = omega (arith, clear_add class i d h, lead_clear class (drop i d) l)

-- a byte at which a run of a line may end begins a character
stop_begins : (class : class_t) → is_line class ≡ true → (b : ℕ) → is_stop class b ≡ true → begins b ≡ true
stop_begins BLANK line b h = absurd cc
stop_begins (GAP_BLANK tabs) line b h = absurd cc
stop_begins SPACE line b h = absurd cc
stop_begins BLANK_OR_BREAK line b h = absurd cc
stop_begins ALPHA line b h = absurd cc
stop_begins (URI listed) line b h = absurd cc
stop_begins class line b h = grind (arith, nat_tests)

not_quiet : (b : Bool) → not b ≡ false → b ≡ true
not_quiet true h = refl
not_quiet false h = absurd cc

-- so does the byte after the quiet ones, if there is one
pub quiet_ends : (class : class_t) (xs : List ℕ) (n : ℕ) → is_line class ≡ true → n ≡ prefix_len (is_quiet class) xs → begins (get_or xs n 0) ≡ true
quiet_ends class xs n line e =
    elim (cases_lt n (length xs)) [
      | inl l ↦
          let stop : is_quiet class (get_or xs n 0) ≡ false = ap (λ k. is_quiet class (get_or xs k 0)) e ∙ prefix_len_stops (is_quiet class) xs 0 (omega (arith, l, e)) in
          stop_begins class line (get_or xs n 0) (not_quiet (is_stop class (get_or xs n 0)) stop)
      | inr past ↦ ap begins (get_or_past xs n 0 past)
    ]

pub quiet_ends_on : (class : class_t) (d : List ℕ) (i n : ℕ) → is_line class ≡ true → n ≡ prefix_len (is_quiet class) (drop i d) → begins (get_or d (i + n) 0) ≡ true
quiet_ends_on class d i n line e = ap begins (sym (get_or-drop i d n 0)) ∙ quiet_ends class (drop i d) n line e

pub quiet_is_clear : (class : class_t) (xs : List ℕ) (n : ℕ) → is_line class ≡ true → n ≡ prefix_len (is_quiet class) xs → Clear class xs n
quiet_is_clear class xs n line e = (omega (arith, e, quiet_clear class xs), quiet_ends class xs n line e)

some_lead : (xs : List ℕ) → is_false_lead_of xs ≡ true → 0 < length xs
some_lead [] h = absurd cc
some_lead (x ∷ xs) h = omega arith

counted_one : (xs : List ℕ) → 0 < length xs → begins (get_or xs 0 0) ≡ true → 1 ≡ count_by begins (take 1 xs)
counted_one [] l h = absurd (omega arith)
counted_one (x ∷ xs) l h = sym (one_byte x [] h)

-- what is clear and counted after a byte that a break might begin with, and the quiet bytes after it
pub record PastLead (class : class_t) (d : List ℕ) (i n more count : ℕ) : Type 0 where
  pub inside : i < length d
  pub clear : Clear class d (i + (1 + more))
  pub chars : n + (1 + count) ≡ count_by begins (take (i + (1 + more)) d)
  pub within : i + (1 + more) ≤ length d

pub lead_inside : (d : List ℕ) (i : ℕ) → is_false_lead_of (drop i d) ≡ true → i < length d
lead_inside d i h = omega (arith, some_lead (drop i d) h, length-drop i d)

pub past_lead : (class : class_t) (d : List ℕ) (i n more count : ℕ) → is_line class ≡ true → Clear class d i → n ≡ count_by begins (take i d) → is_false_lead_of (drop i d) ≡ true → more ≡ prefix_len (is_quiet class) (drop (i + 1) d)
    → count ≡ count_by begins (take more (drop (i + 1) d)) → PastLead class d i n more count
past_lead class d i n more count line clear n-is lead more-is count-is =
    let inside = lead_inside d i lead in
    let j = i + 1 in
    let e : i + (1 + more) ≡ j + more = omega arith in
    let zero-on : i + 0 ≡ i = omega arith in
    let begin : begins (get_or (drop i d) 0 0) ≡ true = ap begins (get_or-drop i d 0 0) ∙ ap (λ k. begins (get_or d k 0)) zero-on ∙ clear.1 in
    let k : j - i ≡ 1 = omega arith in
    let one : 1 ≡ count_by begins (take (j - i) (drop i d)) = counted_one (drop i d) (some_lead (drop i d) lead) begin ∙ ap (λ x. count_by begins (take x (drop i d))) (sym k) in
    let front : n + 1 ≡ count_by begins (take j d) = count_part begins d i j n 1 n-is (omega arith) one in
    let rest-is : j + more - j ≡ more = omega arith in
    let rest : count ≡ count_by begins (take (j + more - j) (drop j d)) = count-is ∙ ap (λ x. count_by begins (take x (drop j d))) (sym rest-is) in
    let all = count_part begins d j (j + more) (n + 1) count front (omega arith) rest in
    record {
      inside = inside;
      clear = (omega (arith, clear_more class d j more (clear_lead class d i clear.0 lead) (omega (arith, more-is))), ap (λ x. begins (get_or d x 0)) e ∙ quiet_ends_on class d j more line more-is);
      chars = let s : n + (1 + count) ≡ n + 1 + count = omega arith in s ∙ all ∙ ap (λ x. count_by begins (take x d)) (sym e);
      within = omega (arith, more-is, prefix_len-le-length (is_quiet class) (drop j d), length-drop j d, inside);
    }

-- ---- the characters of clear bytes

takes : (class : class_t) → is_line class ≡ true → (c : ℕ) → 128 ≤ c → is_break c ≡ false → class_test class c ≡ true
takes BLANK line c l h = absurd cc
takes (GAP_BLANK tabs) line c l h = absurd cc
takes SPACE line c l h = absurd cc
takes BLANK_OR_BREAK line c l h = absurd cc
takes ALPHA line c l h = absurd cc
takes (URI listed) line c l h = absurd cc
takes class line c l h = grind (arith, nat_tests)

false_low : (b : ℕ) (bs : List ℕ) → is_false_lead_of (b ∷ bs) ≡ true → 192 ≤ b
false_low b [] h = absurd cc
false_low b (x ∷ []) h = absurd cc
false_low b (x ∷ y ∷ more) h = grind (arith, nat_tests)

two_break : (c y : ℕ) → 128 ≤ c → c < 2048 → is_break c ≡ true → is_false_lead (192 + c / 64) (next c) y ≡ true → ⊥
two_break c y l h t e =
    let k : c ≡ 133 = grind (arith, nat_tests) in
    true≢false (sym e ∙ ap (λ x. is_false_lead (192 + x / 64) (next x) y) k)

lead_two : (c : ℕ) (more : List ℕ) → 128 ≤ c → c < 2048 → is_false_lead_of ((192 + c / 64) ∷ next c ∷ more) ≡ true → is_break c ≡ false
lead_two c [] l h e = absurd cc
lead_two c (y ∷ more) l h e = elim (cases_Bool (is_break c)) [ inl t ↦ absurd (two_break c y l h t e) | inr f ↦ f ]

three_break : (c : ℕ) → 2048 ≤ c → c < 65536 → is_break c ≡ true → is_false_lead (224 + c / 4096) (next (c / 64)) (next c) ≡ true → ⊥
three_break c l h t e =
    elim (cases_Bool (c == 8232)) [
      | inl t' ↦
          let k : c ≡ 8232 = grind (arith, nat_tests) in
          true≢false (sym e ∙ ap (λ x. is_false_lead (224 + x / 4096) (next (x / 64)) (next x)) k)
      | inr f ↦
          let k : c ≡ 8233 = grind (arith, nat_tests) in
          true≢false (sym e ∙ ap (λ x. is_false_lead (224 + x / 4096) (next (x / 64)) (next x)) k)
    ]

lead_three : (c : ℕ) (more : List ℕ) → 2048 ≤ c → c < 65536 → is_false_lead_of ((224 + c / 4096) ∷ next (c / 64) ∷ next c ∷ more) ≡ true → is_break c ≡ false
lead_three c more l h e = elim (cases_Bool (is_break c)) [ inl t ↦ absurd (three_break c l h t e) | inr f ↦ f ]

-- a character that begins with such a byte
lead_char : (c : ℕ) (more : List ℕ) → is_false_lead_of (encode c ++ more) ≡ true → (128 ≤ c) × (is_break c ≡ false)
lead_char c more h =
    elim (cases_lt c 128) [
      | inl a ↦ absurd (omega (arith, a, false_low c more (subst (λ (x : List ℕ). is_false_lead_of (x ++ more) ≡ true) (encode_ascii c a) h)))
      | inr a ↦ elim (cases_lt c 2048) [
        | inl b ↦ (a, lead_two c more a b (subst (λ (x : List ℕ). is_false_lead_of (x ++ more) ≡ true) (two c a b) h))
        | inr b ↦ elim (cases_lt c 65536) [
          | inl d ↦ (a, lead_three c more b d (subst (λ (x : List ℕ). is_false_lead_of (x ++ more) ≡ true) (three c b d) h))
          | inr d ↦ (a, no_break4 c d)
        ]
      ]
    ]

lead_is : (s f : Bool) → not s ≡ false → (s && not f) ≡ false → f ≡ true
lead_is true true a b = refl
lead_is true false a b = absurd cc
lead_is false f a b = absurd cc

clear_passes : (class : class_t) (c : ℕ) (more : List ℕ) → is_line class ≡ true → 0 < c → (is_stop class (get_or (encode c) 0 0) && not (is_false_lead_of (encode c ++ more))) ≡ false → Passes class c
clear_passes class c more line s h =
    elim (cases_Bool (is_quiet class (get_or (encode c) 0 0))) [
      | inl good ↦ passes class c s good
      | inr bad ↦
          let t = lead_char c more (lead_is (is_stop class (get_or (encode c) 0 0)) (is_false_lead_of (encode c ++ more)) bad h) in
          (takes class line c t.0 t.1, t.1)
    ]

-- The first of n clear bytes spell a character.
record CharClear (class : class_t) (xs more : List ℕ) (n : ℕ) : Type 0 where
  first : (is_stop class (get_or xs 0 0) && not (is_false_lead_of (xs ++ more))) ≡ false
  left : ℕ
  sum : length xs + left ≡ n
  low : left ≤ clear_len class more
  whole : begins (get_or more left 0) ≡ true

clear1 : (class : class_t) (b : ℕ) (more : List ℕ) (n : ℕ) → suc n ≤ clear_len class (b ∷ more) → begins (get_or (b ∷ more) (suc n) 0) ≡ true → CharClear class (b ∷ []) more (suc n)
clear1 class b more n l w =
    let t = clear_tail class b more n l in
    record { first = t.1; left = n; sum = omega arith; low = t.0; whole = w }

clear2 : (class : class_t) (b x : ℕ) (more : List ℕ) (n : ℕ) → begins x ≡ false → suc n ≤ clear_len class (b ∷ x ∷ more) → begins (get_or (b ∷ x ∷ more) (suc n) 0) ≡ true → CharClear class (b ∷ x ∷ []) more (suc n)
clear2 class b x more zero nx l w = absurd (true≢false (sym w ∙ nx))
clear2 class b x more (suc n) nx l w =
    let t = clear_tail class b (x ∷ more) (suc n) l in
    let u = clear_tail class x more n t.0 in
    record { first = t.1; left = n; sum = omega arith; low = u.0; whole = w }

clear3 : (class : class_t) (b x y : ℕ) (more : List ℕ) (n : ℕ) → begins x ≡ false → begins y ≡ false → suc n ≤ clear_len class (b ∷ x ∷ y ∷ more) → begins (get_or (b ∷ x ∷ y ∷ more) (suc n) 0) ≡ true → CharClear class (b ∷ x ∷ y ∷ []) more (suc n)
clear3 class b x y more zero nx ny l w = absurd (true≢false (sym w ∙ nx))
clear3 class b x y more (suc zero) nx ny l w = absurd (true≢false (sym w ∙ ny))
clear3 class b x y more (suc (suc n)) nx ny l w =
    let t = clear_tail class b (x ∷ y ∷ more) (suc (suc n)) l in
    let u = clear_tail class x (y ∷ more) (suc n) t.0 in
    let v = clear_tail class y more n u.0 in
    record { first = t.1; left = n; sum = omega arith; low = v.0; whole = w }

clear4 : (class : class_t) (b x y z : ℕ) (more : List ℕ) (n : ℕ) → begins x ≡ false → begins y ≡ false → begins z ≡ false → suc n ≤ clear_len class (b ∷ x ∷ y ∷ z ∷ more) → begins (get_or (b ∷ x ∷ y ∷ z ∷ more) (suc n) 0) ≡ true
    → CharClear class (b ∷ x ∷ y ∷ z ∷ []) more (suc n)
clear4 class b x y z more zero nx ny nz l w = absurd (true≢false (sym w ∙ nx))
clear4 class b x y z more (suc zero) nx ny nz l w = absurd (true≢false (sym w ∙ ny))
clear4 class b x y z more (suc (suc zero)) nx ny nz l w = absurd (true≢false (sym w ∙ nz))
clear4 class b x y z more (suc (suc (suc n))) nx ny nz l w =
    let t = clear_tail class b (x ∷ y ∷ z ∷ more) (suc (suc (suc n))) l in
    let u = clear_tail class x (y ∷ z ∷ more) (suc (suc n)) t.0 in
    let v = clear_tail class y (z ∷ more) (suc n) u.0 in
    let k = clear_tail class z more n v.0 in
    record { first = t.1; left = n; sum = omega arith; low = k.0; whole = w }

abbrev Clears : class_t → List ℕ → List ℕ → ℕ → Type 0
Clears class xs more n = suc n ≤ clear_len class (xs ++ more) → begins (get_or (xs ++ more) (suc n) 0) ≡ true → CharClear class xs more (suc n)

clear_char : (class : class_t) (c : ℕ) (more : List ℕ) (n : ℕ) → Clears class (encode c) more n
clear_char class c more n =
    elim (cases_lt c 128) [
      | inl a ↦ subst (λ (xs : List ℕ). Clears class xs more n) (sym (encode_ascii c a)) (clear1 class c more n)
      | inr a ↦ elim (cases_lt c 2048) [
        | inl b ↦ subst (λ (xs : List ℕ). Clears class xs more n) (sym (two c a b)) (clear2 class (192 + c / 64) (next c) more n (count_next c))
        | inr b ↦ elim (cases_lt c 65536) [
          | inl d ↦ subst (λ (xs : List ℕ). Clears class xs more n) (sym (three c b d)) (clear3 class (224 + c / 4096) (next (c / 64)) (next c) more n (count_next (c / 64)) (count_next c))
          | inr d ↦ subst (λ (xs : List ℕ). Clears class xs more n) (sym (four c d)) (clear4 class (240 + c / 262144) (next (c / 4096)) (next (c / 64)) (next c) more n (count_next (c / 4096)) (count_next (c / 64)) (count_next c))
        ]
      ]
    ]

-- clear bytes up to one that begins a character are characters of the class
pub over_clear : (class : class_t) → is_line class ≡ true → (m : yaml_mark_t) (cs : List ℕ) (n : ℕ) → AreChars cs → n ≤ clear_len class (utf8 cs) → begins (get_or (utf8 cs) n 0) ≡ true → Over class m cs n
over_clear class line m [] n h l w = nothing_over class m [] n (omega (arith, l))
over_clear class line m (c ∷ cs) zero h l w = nothing_over class m (c ∷ cs) zero refl
over_clear class line m (c ∷ cs) (suc n) h l w =
    let r = char_range c h.0 in
    let s = clear_char class c (utf8 cs) n l w in
    let o = one_over class m c cs s.left (clear_passes class c (utf8 cs) line r.0 s.first) (over_clear class line (along m (len_utf8 c) 1) cs s.left h.1 s.low s.whole) in
    subst (λ k. Over class m (c ∷ cs) k) s.sum o

pub over_bytes : (class : class_t) (m : yaml_mark_t) (bytes : List ℕ) (n : ℕ) → is_line class ≡ true → IsText bytes → Clear class bytes n → Over class m (chars bytes) n
over_bytes class m bytes n line t h =
    let k : Clear class (utf8 (chars bytes)) n = subst (λ (xs : List ℕ). Clear class xs n) (sym t.spelled) h in
    over_clear class line m (chars bytes) n t.each k.0 k.1

-- A list without the blanks at its end.
use Rattle.std.proofs.Common.{◌≡◌, ◌&&◌, ℕ, suc, ◌+◌, ◌-◌, ◌/◌, ◌<◌, ◌≤◌, Bool, true, false, not, cond, List, [], ◌∷◌, ◌++◌, length, get_or, take, refl, sym, ap, ◌∙◌, arith, inl, inr}
use Rattle.std.specs.List.{list_all}
use Rattle.std.proofs.Math.Seq.{take-suc}
use Rattle.std.proofs.lemmas.Bool.{cases_lt, cases_Bool, true≢false, and_right}
use Rattle.std.proofs.lemmas.Bool.Decides.{nat_tests}
use Rattle.std.proofs.lemmas.Str.{encode_ascii}
use lib.Utf8.{encode, next}
use Rattle.yaml_text.specs.Chars.{utf8}
use Rattle.yaml_text.specs.Classes.{is_blank}
use Rattle.yaml_text.proofs.Characters.Utf8Spelling.{two, three, four}
use Rattle.yaml_lexeme.specs.inside.Runs.{trim}
use Rattle.yaml_text.proofs.Characters.ClassTables.{high_blank}
use Rattle.std.proofs.lemmas.List.{length-append, length-take, take-take, take_at, get_or-take}

abbrev all : List ℕ → Bool
all xs = list_all is_blank xs

all_push : (xs : List ℕ) (b : ℕ) → all (xs ++ b ∷ []) ≡ (all xs && is_blank b)
all_push [] b = grind (arith, nat_tests)
all_push (x ∷ xs) b = elim (cases_Bool (is_blank x)) [ inl t ↦ rw t (all_push xs b) | inr f ↦ rw f refl ]

and_one : (b : Bool) → (b && true) ≡ b
and_one true = refl
and_one false = refl

-- a blank at the end is dropped
pub trim_blank : (xs : List ℕ) (b : ℕ) → is_blank b ≡ true → trim (xs ++ b ∷ []) ≡ trim xs
trim_blank [] b h = rw h refl
trim_blank (x ∷ xs) b h =
    let e : all ((x ∷ xs) ++ b ∷ []) ≡ all (x ∷ xs) = all_push (x ∷ xs) b ∙ ap (λ t. all (x ∷ xs) && t) h ∙ and_one (all (x ∷ xs)) in
    ap (λ t. cond t [] (x ∷ trim (xs ++ b ∷ []))) e ∙ ap (λ ys. cond (all (x ∷ xs)) [] (x ∷ ys)) (trim_blank xs b h)

-- anything else stays, and all before it
pub trim_solid : (xs : List ℕ) (b : ℕ) → is_blank b ≡ false → trim (xs ++ b ∷ []) ≡ xs ++ b ∷ []
trim_solid [] b h = rw h refl
trim_solid (x ∷ xs) b h =
    let e : all ((x ∷ xs) ++ b ∷ []) ≡ false = all_push (x ∷ xs) b ∙ ap (λ t. all (x ∷ xs) && t) h ∙ and_right (all (x ∷ xs)) false refl in
    ap (λ t. cond t [] (x ∷ trim (xs ++ b ∷ []))) e ∙ ap (λ ys. x ∷ ys) (trim_solid xs b h)

-- one step of a loop from the end
pub trim_step : (xs : List ℕ) (n : ℕ) → n < length xs → is_blank (get_or xs n 0) ≡ true → trim (take (suc n) xs) ≡ trim (take n xs)
trim_step xs n h b = ap trim (take-suc xs n 0 h) ∙ trim_blank (take n xs) (get_or xs n 0) b

pub trim_stop : (xs : List ℕ) (n : ℕ) → n < length xs → is_blank (get_or xs n 0) ≡ false → trim (take (suc n) xs) ≡ take (suc n) xs
trim_stop xs n h b = ap trim (take-suc xs n 0 h) ∙ trim_solid (take n xs) (get_or xs n 0) b ∙ sym (take-suc xs n 0 h)

-- ---- the first characters, and the blanks

pub record Trimmed (cs : List ℕ) : Type 0 where
  pub blanks : List ℕ
  pub parts : cs ≡ trim cs ++ blanks
  pub each : all blanks ≡ true

pub trimmed : (cs : List ℕ) → Trimmed cs
trimmed [] = record { blanks = []; parts = refl; each = refl }
trimmed (c ∷ cs) =
    elim (cases_Bool (all (c ∷ cs))) [
      | inl t ↦ record { blanks = c ∷ cs; parts = rw t refl; each = t }
      | inr f ↦ let r = trimmed cs in record { blanks = r.blanks; parts = rw f (ap (λ ys. c ∷ ys) r.parts); each = r.each }
    ]

nothing_left : (cs : List ℕ) → trim cs ≡ [] → all cs ≡ true
nothing_left cs e = let r = trimmed cs in ap all (r.parts ∙ ap (λ ys. ys ++ r.blanks) e) ∙ r.each

some_solid : (c : ℕ) (cs : List ℕ) → all (c ∷ cs) ≡ false → all cs ≡ true → is_blank c ≡ false
some_solid c cs f t = elim (cases_Bool (is_blank c)) [ inl b ↦ absurd (true≢false (sym (rw (b, t) refl) ∙ f)) | inr n ↦ n ]

last_from : (c : ℕ) (cs ts : List ℕ) → trim cs ≡ ts → all (c ∷ cs) ≡ false → (0 < length ts → is_blank (get_or ts (length ts - 1) 0) ≡ false) → is_blank (get_or (c ∷ ts) (length (c ∷ ts) - 1) 0) ≡ false
last_from c cs [] e f h = some_solid c cs f (nothing_left cs e)
last_from c cs (t ∷ ts) e f h =
    let i : length (c ∷ t ∷ ts) - 1 ≡ suc (length (t ∷ ts) - 1) = omega arith in
    ap (λ n. is_blank (get_or (c ∷ t ∷ ts) n 0)) i ∙ h (omega arith)

-- the last one that stays is no blank
pub trim_last : (cs : List ℕ) → 0 < length (trim cs) → is_blank (get_or (trim cs) (length (trim cs) - 1) 0) ≡ false
trim_last [] h = absurd (omega arith)
trim_last (c ∷ cs) h =
    elim (cases_Bool (all (c ∷ cs))) [
      | inl t ↦ absurd (omega (arith, rw t at h))
      | inr f ↦ rw f (last_from c cs (trim cs) refl f (trim_last cs))
    ]

-- The first m characters, without the blanks at their end.
pub record TrimsAt (cs : List ℕ) (m : ℕ) (blanks : List ℕ) : Type 0 where
  pub sum : length (trim (take m cs)) + length blanks ≡ m
  pub front : take (length (trim (take m cs))) cs ≡ trim (take m cs)
  pub last : 0 < length (trim (take m cs)) → is_blank (get_or cs (length (trim (take m cs)) - 1) 0) ≡ false

pub trims_at : (cs : List ℕ) (m : ℕ) → m ≤ length cs → TrimsAt cs m (trimmed (take m cs)).blanks
trims_at cs m within =
    let t = trimmed (take m cs) in
    let kept = trim (take m cs) in
    let k = length kept in
    let sum : k + length t.blanks ≡ m = omega (arith, length-take m cs, ap length t.parts, length-append kept t.blanks) in
    let front : take k cs ≡ kept = sym (take-take k m cs (omega arith)) ∙ ap (λ (x : List ℕ). take k x) t.parts ∙ take_at kept t.blanks k refl in
    record {
      sum = sum;
      front = front;
      last = λ some. ap is_blank (sym (get_or-take k cs (k - 1) 0 (omega arith)) ∙ ap (λ (x : List ℕ). get_or x (k - 1) 0) front) ∙ trim_last (take m cs) some;
    }

-- ---- bytes

abbrev none : List ℕ → Bool
none xs = list_all (λ b. not (is_blank b)) xs

solid_front : (xs bs : List ℕ) → none xs ≡ true → trim (xs ++ bs) ≡ xs ++ trim bs
solid_front [] bs h = refl
solid_front (x ∷ xs) bs h =
    elim (cases_Bool (is_blank x)) [
      | inl t ↦ absurd (true≢false (sym h ∙ rw t refl))
      | inr f ↦ let rest : none xs ≡ true = rw f at h in rw f (ap (λ ys. x ∷ ys) (solid_front xs bs rest))
    ]

next_solid : (c : ℕ) → is_blank (next c) ≡ false
next_solid c = let l : 128 ≤ next c = omega arith in grind (arith, nat_tests)

encode_solid : (c : ℕ) → 128 ≤ c → none (encode c) ≡ true
encode_solid c l =
    elim (cases_lt c 2048) [
      | inl b ↦ rw (two c l b, high_blank (192 + c / 64) (omega arith), next_solid c) refl
      | inr b ↦ elim (cases_lt c 65536) [
        | inl d ↦ rw (three c b d, high_blank (224 + c / 4096) (omega arith), next_solid (c / 64), next_solid c) refl
        | inr d ↦ rw (four c d, high_blank (240 + c / 262144) (omega arith), next_solid (c / 4096), next_solid (c / 64), next_solid c) refl
      ]
    ]

all_front : (xs bs : List ℕ) → none xs ≡ true → 0 < length xs → all (xs ++ bs) ≡ false
all_front [] bs h s = absurd (omega arith)
all_front (x ∷ xs) bs h s = elim (cases_Bool (is_blank x)) [ inl t ↦ absurd (true≢false (sym h ∙ rw t refl)) | inr f ↦ rw f refl ]

encode_length : (c : ℕ) → 128 ≤ c → 0 < length (encode c)
encode_length c l =
    elim (cases_lt c 2048) [
      | inl b ↦ rw (two c l b) (omega arith)
      | inr b ↦ elim (cases_lt c 65536) [ inl d ↦ rw (three c b d) (omega arith) | inr d ↦ rw (four c d) (omega arith) ]
    ]

all_bytes : (cs : List ℕ) → all (utf8 cs) ≡ all cs
all_bytes [] = refl
all_bytes (c ∷ cs) =
    elim (cases_lt c 128) [
      | inl a ↦ rw (encode_ascii c a) (ap (λ t. is_blank c && t) (all_bytes cs))
      | inr h ↦ all_front (encode c) (utf8 cs) (encode_solid c h) (encode_length c h) ∙ sym (rw (high_blank c h) refl)
    ]

-- the bytes of what stays
pub trim_bytes : (cs : List ℕ) → trim (utf8 cs) ≡ utf8 (trim cs)
trim_bytes [] = refl
trim_bytes (c ∷ cs) =
    elim (cases_lt c 128) [
      | inl a ↦
          let e = encode_ascii c a in
          let left : trim (utf8 (c ∷ cs)) ≡ cond (all (c ∷ cs)) [] (c ∷ utf8 (trim cs)) =
          ap (λ (x : List ℕ). trim (x ++ utf8 cs)) e ∙ ap (λ t. cond (is_blank c && t) [] (c ∷ trim (utf8 cs))) (all_bytes cs) ∙ ap (λ ys. cond (all (c ∷ cs)) [] (c ∷ ys)) (trim_bytes cs) in
          left ∙ elim (cases_Bool (all (c ∷ cs))) [ inl t ↦ rw t refl | inr f ↦ rw (f, e) refl ]
      | inr h ↦
          let f : all (c ∷ cs) ≡ false = rw (high_blank c h) refl in
          solid_front (encode c) (utf8 cs) (encode_solid c h) ∙ ap (λ (x : List ℕ). encode c ++ x) (trim_bytes cs) ∙ sym (rw f refl)
    ]

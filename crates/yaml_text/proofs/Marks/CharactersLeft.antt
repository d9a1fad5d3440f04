-- The last characters of a text, found by its bytes from the end back.
use Rattle.std.proofs.Common.{◌≡◌, ℕ, zero, suc, ◌+◌, ◌-◌, ◌/◌, ◌≤◌, ◌<◌, ◌⊎◌, not, true, false, List, [], ◌∷◌, ◌++◌, length, length-append, length-drop, take, drop, take-append-drop, filter, add-zero, refl, ap, sym, ◌∙◌, subst, arith, inl, inr, get_or}
use Rattle.std.specs.Prelude.{◌↔◌}
use Rattle.std.proofs.lemmas.Bool.{cases_Bool, cases_lt}
use Rattle.std.proofs.lemmas.Bool.Decides.{nat_tests}
use Rattle.std.proofs.lemmas.List.{drop_at, get_or-drop}
use Rattle.std.proofs.lemmas.List.Elements.{filter-append}
use Rattle.std.proofs.lemmas.Str.{encode_ascii, encodes-append}
use lib.Utf8.{encode, next}
use Rattle.yaml_text.specs.Chars.{utf8}
use Rattle.yaml_text.specs.TextBytes.{AreChars}
use Rattle.yaml_text.specs.Utf8.{continues}
use Rattle.yaml_text.specs.Mark.{index_from_end}
use Rattle.yaml_text.proofs.Characters.Utf8Spelling.{two, three, four, next_continues}
use Rattle.yaml_text.proofs.Characters.ClassTables.{leads}
use Rattle.yaml_text.proofs.Marks.MarkMoves.{AreChars-parts}
use Rattle.yaml_text.proofs.Marks.MarkIndexes.{index_gap}
use Rattle.yaml_text.proofs.Marks.MarkSplits.{lead_starts}

-- how many bytes continue no character
abbrev pub starts : List ℕ → ℕ
starts bytes = length (filter (λ b. not (continues b)) bytes)

starts_lead : (b : ℕ) (bs : List ℕ) → continues b ≡ false → starts (b ∷ bs) ≡ suc (starts bs)
starts_lead b bs e = rw e refl

starts_tail : (b : ℕ) (bs : List ℕ) → continues b ≡ true → starts (b ∷ bs) ≡ starts bs
starts_tail b bs e = rw e refl

lead_byte : (b : ℕ) → (b < 128) ⊎ (192 ≤ b) → continues b ≡ false
lead_byte b (inl l) = grind (arith, nat_tests)
lead_byte b (inr l) = grind (arith, nat_tests)

starts_two : (a b : ℕ) → 192 ≤ a → starts (a ∷ next b ∷ []) ≡ 1
starts_two a b l = starts_lead a (next b ∷ []) (lead_byte a (inr l)) ∙ ap suc (starts_tail (next b) [] (next_continues b))

starts_three : (a b c : ℕ) → 192 ≤ a → starts (a ∷ next b ∷ next c ∷ []) ≡ 1
starts_three a b c l = starts_lead a (next b ∷ next c ∷ []) (lead_byte a (inr l)) ∙ ap suc (starts_tail (next b) (next c ∷ []) (next_continues b) ∙ starts_tail (next c) [] (next_continues c))

starts_four : (a b c d : ℕ) → 192 ≤ a → starts (a ∷ next b ∷ next c ∷ next d ∷ []) ≡ 1
starts_four a b c d l =
    starts_lead a (next b ∷ next c ∷ next d ∷ []) (lead_byte a (inr l)) ∙ ap suc (starts_tail (next b) (next c ∷ next d ∷ []) (next_continues b) ∙ starts_tail (next c) (next d ∷ []) (next_continues c) ∙ starts_tail (next d) [] (next_continues d))

-- one byte of a character is its first
encode_starts : (c : ℕ) → starts (encode c) ≡ 1
encode_starts c = elim (cases_lt c 128) [
  | inl l ↦ ap starts (encode_ascii c l) ∙ starts_lead c [] (lead_byte c (inl l))
  | inr l ↦ elim (cases_lt c 2048) [
    | inl m ↦ ap starts (two c l m) ∙ starts_two (192 + c / 64) c (omega arith)
    | inr m ↦ elim (cases_lt c 65536) [
      | inl k ↦ ap starts (three c m k) ∙ starts_three (224 + c / 4096) (c / 64) c (omega arith)
      | inr k ↦ ap starts (four c k) ∙ starts_four (240 + c / 262144) (c / 4096) (c / 64) c (omega arith)
    ]
  ]
]

starts-append : (a b : List ℕ) → starts (a ++ b) ≡ starts a + starts b
starts-append a b = ap (λ (l : List ℕ). length l) (filter-append (λ b. not (continues b)) a b) ∙ length-append (filter (λ b. not (continues b)) a) (filter (λ b. not (continues b)) b)

starts_utf8 : (cs : List ℕ) → starts (utf8 cs) ≡ length cs
starts_utf8 [] = refl
starts_utf8 (c ∷ cs) = omega (arith, starts-append (encode c) (utf8 cs), encode_starts c, starts_utf8 cs)

drop_utf8 : (cs : List ℕ) (p : ℕ) → drop (length (utf8 (take p cs))) (utf8 cs) ≡ utf8 (drop p cs)
drop_utf8 cs p =
    let e : utf8 cs ≡ utf8 (take p cs) ++ utf8 (drop p cs) = ap utf8 (sym (take-append-drop p cs)) ∙ encodes-append (take p cs) (drop p cs) in
    ap (λ (l : List ℕ). drop (length (utf8 (take p cs))) l) e ∙ drop_at (utf8 (take p cs)) (utf8 (drop p cs)) (length (utf8 (take p cs))) refl

drop_chars : (cs : List ℕ) (p : ℕ) → AreChars cs → AreChars (drop p cs)
drop_chars cs p a = (AreChars-parts (take p cs) (drop p cs) (subst AreChars (sym (take-append-drop p cs)) a)).1

-- the characters after a place begin in the bytes after its index
left_after : (cs : List ℕ) (p : ℕ) → starts (drop (length (utf8 (take p cs))) (utf8 cs)) ≡ length cs - p
left_after cs p = ap starts (drop_utf8 cs p) ∙ starts_utf8 (drop p cs) ∙ length-drop p cs

-- a character begins at the index of a place
lead_after : (cs : List ℕ) (p : ℕ) → AreChars cs → continues (get_or (utf8 cs) (length (utf8 (take p cs))) 0) ≡ false
lead_after cs p a =
    let i = length (utf8 (take p cs)) in
    let e : get_or (utf8 cs) i 0 ≡ get_or (utf8 (drop p cs)) 0 0 = ap (λ n. get_or (utf8 cs) n 0) (sym (add-zero i)) ∙ sym (get_or-drop i (utf8 cs) 0 0) ∙ ap (λ (x : List ℕ). get_or x 0 0) (drop_utf8 cs p) in
    rw e (lead_starts _ _ _ _ (leads (drop p cs) (drop_chars cs p a)))

-- fewer begin further on
starts_drop : (bytes : List ℕ) (i j : ℕ) → i ≤ j → starts (drop j bytes) ≤ starts (drop i bytes)
starts_drop [] i zero l = (let z : i ≡ 0 = omega arith in rw z (omega arith))
starts_drop [] i (suc j) l = omega arith
starts_drop (b ∷ bytes) zero zero l = omega arith
starts_drop (b ∷ bytes) zero (suc j) l = let r = starts_drop bytes 0 j (omega arith) in elim (cases_Bool (continues b)) [ inl c ↦ omega (arith, starts_tail b bytes c) | inr c ↦ omega (arith, starts_lead b bytes c) ]
starts_drop (b ∷ bytes) (suc i) zero l = absurd (omega arith)
starts_drop (b ∷ bytes) (suc i) (suc j) l = starts_drop bytes i j (omega arith)

-- one byte back
pub step_back : (bytes : List ℕ) (i : ℕ) → i < length bytes → (continues (get_or bytes i 0) ≡ true → starts (drop i bytes) ≡ starts (drop (i + 1) bytes)) × (continues (get_or bytes i 0) ≡ false → starts (drop i bytes) ≡ suc (starts (drop (i + 1) bytes)))
step_back [] i l = absurd (omega arith)
step_back (b ∷ bytes) zero l = ((λ c. starts_tail b bytes c), (λ c. starts_lead b bytes c))
step_back (b ∷ bytes) (suc i) l = let e : suc i + 1 ≡ suc (i + 1) = omega arith in rw e (step_back bytes i (omega arith))

-- So many characters begin from an index on, and fewer after it.
pub record IsStart (bytes : List ℕ) (at count : ℕ) : Type 0 where
  pub within : at ≤ length bytes
  pub count_is : starts (drop at bytes) ≡ count
  pub fewer : (j : ℕ) → at < j → j ≤ length bytes → starts (drop j bytes) < count

start_is : (cs : List ℕ) (at count : ℕ) → AreChars cs → IsStart (utf8 cs) at count → at ≡ index_from_end cs count
start_is cs at count a s =
    let i = index_from_end cs count in
    let all : count ≤ length cs = omega (arith, starts_drop (utf8 cs) 0 at (omega arith), starts_utf8 cs, s.count_is) in
    let here : starts (drop i (utf8 cs)) ≡ count = omega (arith, left_after cs (length cs - count)) in
    elim (cases_lt at i) [
      | inl l ↦ absurd (omega (arith, s.fewer i l (index_within cs (length cs - count)), here))
      | inr m ↦ elim (cases_lt i at) [
        | inl l ↦ absurd (omega (arith, (step_back (utf8 cs) i (omega (arith, s.within))).1 (lead_after cs (length cs - count) a), starts_drop (utf8 cs) (i + 1) at (omega arith), s.count_is, here))
        | inr k ↦ omega arith
      ]
    ]
  where
    index_within : (cs : List ℕ) (p : ℕ) → length (utf8 (take p cs)) ≤ length (utf8 cs)
    index_within cs p = omega (arith, ap (λ (x : List ℕ). length (utf8 x)) (sym (take-append-drop p cs)), ap length (encodes-append (take p cs) (drop p cs)), length-append (utf8 (take p cs)) (utf8 (drop p cs)))

all_before : (cs : List ℕ) (left count : ℕ) → starts (utf8 cs) + left ≡ count → 0 ≡ index_from_end cs count
all_before cs left count s =
    let none : length cs - count ≡ 0 = omega (arith, s, starts_utf8 cs) in
    sym (ap (λ n. length (utf8 (take n cs))) none)

-- there the last characters begin
pub from_end : (bytes cs : List ℕ) (at left count : ℕ) → AreChars cs → bytes ≡ utf8 cs → at ≤ length bytes → starts (drop at bytes) + left ≡ count
    → ((j : ℕ) → at < j → j ≤ length bytes → starts (drop j bytes) < count) → (at ≡ 0) ⊎ (left ≡ 0) → at ≡ index_from_end cs count
from_end bytes cs at left count a e w s f (inl z) = z ∙ all_before cs left count (ap (λ (x : List ℕ). starts x + left) (sym e) ∙ ap (λ n. starts (drop n bytes) + left) (sym z) ∙ s)
from_end bytes cs at left count a e w s f (inr z) = start_is cs at count a (subst (λ (x : List ℕ). IsStart x at count) e (record { within = w; count_is = omega (arith, s, z); fewer = f }))

pub few_after : (cs : List ℕ) (count p : ℕ) → p ≤ length cs → (index_from_end cs count ≤ length (utf8 (take p cs))) ↔ (length cs - p ≤ count)
few_after cs count p w = (
  (λ h. elim (cases_lt count (length cs - p)) [ inl l ↦ absurd (omega (arith, index_gap cs p (length cs - count) (omega arith) (omega arith))) | inr l ↦ l ]),
  (λ h. omega (arith, index_gap cs (length cs - count) p (omega arith) w)),
)

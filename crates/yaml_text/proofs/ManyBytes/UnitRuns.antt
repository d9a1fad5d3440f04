-- Units that are characters of one byte make what was read of UTF-16 grow by as many characters.
use Rattle.std.proofs.Common.{◌≡◌, ℕ, zero, suc, ◌+◌, ◌*◌, ◌-◌, ◌<◌, ◌≤◌, inl, inr, Bool, true, false, eqb, List, [], ◌∷◌, ◌++◌, length, get_or, take, drop, map, refl, sym, ap, ◌∙◌, subst, append_assoc, add-one, arith, eqb→eq}
use Rattle.std.proofs.lemmas.Bool.{cases_lt}
use Rattle.std.proofs.lemmas.List.{append-nil, length-drop, length-take, get_or-drop, get_or-take, get_or_append_left, get_or-append_right, get_or-map}
use Rattle.std.proofs.lemmas.List.Sums.{prefix_len_passes, prefix_len-le-length}
use Rattle.std.proofs.lemmas.Simd.{leading_from_mask_l, trailing_mask_l}
use Rattle.std.proofs.lemmas.Str.{encode_ascii}
use Rattle.std.proofs.Math.Seq.{take-suc, take-suc-set}
use Rattle.std.proofs.Math.ListN.{set, length-set}
use Rattle.std.specs.List.{prefix_len}
use lib.Count.{count_trailing_zeros}
use lib.Lanes.{mask_l}
use lib.Utf8.{encode}
use Rattle.yaml_text.specs.Chars.{is_char}
use Rattle.yaml_text.specs.inside.Singles.{is_single, is_other}
use Rattle.yaml_text.specs.Utf16.{unit_at}
use Rattle.yaml_text.specs.inside.Units.{Reads16}
use Rattle.yaml_text.proofs.Characters.Utf16Spelling.{AreBytes, found_one, reads_more}
use Rattle.yaml_text.proofs.ManyBytes.AsciiFronts.{single_char, single_low}
use Rattle.yaml_text.proofs.ManyBytes.VectorLanes.{upto_sound}
use Rattle.yaml_text.proofs.ManyBytes.VectorRuns.{same_run, all_pass, twice}

-- ---- the two halves of 16 units

abbrev pub joined : List ℕ → List ℕ
joined bytes = take 16 bytes ++ take 16 (drop 16 bytes)

abbrev pub evens : List ℕ
evens = 0 ∷ 2 ∷ 4 ∷ 6 ∷ 8 ∷ 10 ∷ 12 ∷ 14 ∷ 16 ∷ 18 ∷ 20 ∷ 22 ∷ 24 ∷ 26 ∷ 28 ∷ 30 ∷ []

abbrev pub odds : List ℕ
odds = 1 ∷ 3 ∷ 5 ∷ 7 ∷ 9 ∷ 11 ∷ 13 ∷ 15 ∷ 17 ∷ 19 ∷ 21 ∷ 23 ∷ 25 ∷ 27 ∷ 29 ∷ 31 ∷ []

joined_at : (bytes : List ℕ) (j : ℕ) → 32 ≤ length bytes → j < 32 → get_or (joined bytes) j 0 ≡ get_or bytes j 0
joined_at bytes j long lt =
    let front : length (take 16 bytes) ≡ 16 = omega (arith, length-take 16 bytes) in
    elim (cases_lt j 16) [
      | inl a ↦ get_or_append_left (take 16 bytes) (take 16 (drop 16 bytes)) 0 j (omega arith) ∙ get_or-take 16 bytes j 0 a
      | inr a ↦
          let e : 16 + (j - 16) ≡ j = omega arith in
          get_or-append_right (take 16 bytes) (take 16 (drop 16 bytes)) 16 j 0 front a ∙ get_or-take 16 (drop 16 bytes) (j - 16) 0 (omega arith)
          ∙ get_or-drop 16 bytes (j - 16) 0 ∙ ap (λ i. get_or bytes i 0) e
    ]

pub even_at : (bytes : List ℕ) (k : ℕ) → 32 ≤ length bytes → k < 16 → get_or (map (λ j. get_or (joined bytes) j 0) evens) k 0 ≡ get_or bytes (2 * k) 0
even_at bytes k long lt =
    let place : get_or evens k 0 ≡ 2 * k = eqb→eq _ _ (upto_sound (λ i. eqb (get_or evens i 0) (2 * i)) 16 tt k lt) in
    get_or-map (λ j. get_or (joined bytes) j 0) evens k 0 0 lt ∙ ap (λ j. get_or (joined bytes) j 0) place ∙ joined_at bytes (2 * k) long (omega arith)

pub odd_at : (bytes : List ℕ) (k : ℕ) → 32 ≤ length bytes → k < 16 → get_or (map (λ j. get_or (joined bytes) j 0) odds) k 0 ≡ get_or bytes (2 * k + 1) 0
odd_at bytes k long lt =
    let place : get_or odds k 0 ≡ 2 * k + 1 = eqb→eq _ _ (upto_sound (λ i. eqb (get_or odds i 0) (2 * i + 1)) 16 tt k lt) in
    get_or-map (λ j. get_or (joined bytes) j 0) odds k 0 0 lt ∙ ap (λ j. get_or (joined bytes) j 0) place ∙ joined_at bytes (2 * k + 1) long (omega arith)

-- ---- how many bytes of a vector are characters by themselves

pub all_single : (v : List ℕ) (found : ℕ) → found ≡ mask_l (map is_other v) → found ≡ 0 → prefix_len is_single v ≡ length v
all_single v found is none = same_run is_other is_single (λ x. twice (is_single x)) v ∙ leading_from_mask_l is_other v (sym is ∙ none)

pub some_single : (v : List ℕ) (found : ℕ) → length v ≤ 64 → found ≡ mask_l (map is_other v) → 0 < found → prefix_len is_single v ≡ count_trailing_zeros 64 found
some_single v found short is some =
    same_run is_other is_single (λ x. twice (is_single x)) v ∙ sym (trailing_mask_l is_other 64 v short (omega arith)) ∙ ap (count_trailing_zeros 64) (sym is)

-- where one byte is no character by itself, not all are
pub not_all_single : (v : List ℕ) (found : ℕ) → found ≡ mask_l (map is_other v) → 0 < found → prefix_len is_single v < length v
not_all_single v found is some =
    elim (cases_lt (prefix_len is_single v) (length v)) [
      | inl a ↦ a
      | inr a ↦
          let all : prefix_len is_single v ≡ length v = omega (arith, prefix_len-le-length is_single v) in
          let none = all_pass is_other is_single (λ x. twice (is_single x)) v (sym (same_run is_other is_single (λ x. twice (is_single x)) v) ∙ all) in
          absurd (omega (arith, is, none))
    ]

-- ---- what was read, with the units after it that are characters of one byte

abbrev pub AreUnits : Bool → List ℕ → List ℕ → Type 0
AreUnits big bytes v = (k : ℕ) → k < 16 → is_single (get_or v k 0) ≡ true → unit_at big bytes (2 * k) ≡ get_or v k 0

unit_later : (big : Bool) (bytes : List ℕ) (n : ℕ) → unit_at big (drop n bytes) 0 ≡ unit_at big bytes n
unit_later true bytes n = let a = get_or-drop n bytes 0 0 in let b = get_or-drop n bytes 1 0 in let e : n + 0 ≡ n = omega arith in rw (a, b, e) refl
unit_later false bytes n = let a = get_or-drop n bytes 0 0 in let b = get_or-drop n bytes 1 0 in let e : n + 0 ≡ n = omega arith in rw (a, b, e) refl

pub unit_after : (big : Bool) (bytes : List ℕ) (at n : ℕ) → unit_at big (drop at bytes) n ≡ unit_at big bytes (at + n)
unit_after true bytes at n = let a = get_or-drop at bytes n 0 in let b = get_or-drop at bytes (n + 1) 0 in let e : at + (n + 1) ≡ at + n + 1 = omega arith in rw (a, b, e) refl
unit_after false bytes at n = let a = get_or-drop at bytes n 0 in let b = get_or-drop at bytes (n + 1) 0 in let e : at + (n + 1) ≡ at + n + 1 = omega arith in rw (a, b, e) refl

pub unit_read : (big : Bool) (bytes text : List ℕ) (at u : ℕ) → AreBytes bytes → Reads16 big bytes text at → at + 2 ≤ length bytes → u ≡ unit_at big bytes at → is_char u ≡ true → Reads16 big bytes (text ++ encode u) (at + 2)
unit_read big bytes text at u fits r room is ok =
    let later = drop at bytes in
    let bytes-later : AreBytes later = λ i. omega (arith, get_or-drop at bytes i 0, fits (at + i)) in
    let found = found_one big later bytes-later (omega (arith, length-drop at bytes)) in
    let e : unit_at big later 0 ≡ u = unit_later big bytes at ∙ sym is in
    reads_more big bytes text at 2 u r ok (rw e at found.begins) (rw e at found.size)

pub singles_read : (big : Bool) (bytes text v : List ℕ) (at n : ℕ) → AreBytes bytes → Reads16 big bytes text at → at + 32 ≤ length bytes → length v ≡ 16 → n ≤ prefix_len is_single v → AreUnits big (drop at bytes) v → Reads16 big bytes (text ++ take n v) (at + 2 * n)
singles_read big bytes text v at zero fits r room long few units =
    let e : at + 2 * 0 ≡ at = omega arith in
    rw (append-nil text, e) r
singles_read big bytes text v at (suc n) fits r room long few units =
    let before = singles_read big bytes text v at n fits r room long (omega arith) units in
    let c = get_or v n 0 in
    let lt : n < 16 = omega (arith, prefix_len-le-length is_single v) in
    let s : is_single c ≡ true = prefix_len_passes is_single v n 0 (omega arith) in
    let place = at + 2 * n in
    let is : c ≡ unit_at big bytes place = sym (sym (unit_after big bytes at (2 * n)) ∙ units n lt s) in
    let more = unit_read big bytes (text ++ take n v) place c fits before (omega arith) is (single_char c s) in
    let text-is : (text ++ take n v) ++ encode c ≡ text ++ take (suc n) v =
    ap (λ (x : List ℕ). (text ++ take n v) ++ x) (encode_ascii c (single_low c s)) ∙ append_assoc text (take n v) (c ∷ []) ∙ ap (λ (x : List ℕ). text ++ x) (sym (take-suc v n 0 (omega arith))) in
    let place-is : place + 2 ≡ at + 2 * suc n = omega arith in
    subst (λ (x : List ℕ). Reads16 big bytes x (at + 2 * suc n)) text-is (subst (λ p. Reads16 big bytes ((text ++ take n v) ++ encode c) p) place-is more)

-- ---- bytes that are written in a row

pub written_one : (l : List ℕ) (n a : ℕ) → n < length l → take (n + 1) (set l n a) ≡ take n l ++ (a ∷ [])
written_one l n a lt = rw add-one (take-suc-set l n a lt)

pub written_two : (l : List ℕ) (n a b : ℕ) → n + 1 < length l → take (n + 2) (set (set l n a) (n + 1) b) ≡ take n l ++ (a ∷ b ∷ [])
written_two l n a b lt =
    let e : n + 2 ≡ (n + 1) + 1 = omega arith in
    ap (λ i. take i (set (set l n a) (n + 1) b)) e ∙ written_one (set l n a) (n + 1) b (omega (arith, length-set {A = ℕ})) ∙ ap (λ (x : List ℕ). x ++ (b ∷ [])) (written_one l n a (omega arith)) ∙ append_assoc (take n l) (a ∷ []) (b ∷ [])

pub written_three : (l : List ℕ) (n a b c : ℕ) → n + 2 < length l → take (n + 3) (set (set (set l n a) (n + 1) b) (n + 2) c) ≡ take n l ++ (a ∷ b ∷ c ∷ [])
written_three l n a b c lt =
    let e : n + 3 ≡ (n + 2) + 1 = omega arith in
    ap (λ i. take i (set (set (set l n a) (n + 1) b) (n + 2) c)) e ∙ written_one (set (set l n a) (n + 1) b) (n + 2) c (omega (arith, length-set {A = ℕ})) ∙ ap (λ (x : List ℕ). x ++ (c ∷ [])) (written_two l n a b (omega arith)) ∙ append_assoc (take n l) (a ∷ b ∷ []) (c ∷ [])

-- Vectors that are computed lane by lane from the halves of units are functions of the units.
use Rattle.std.proofs.Common.{◌≡◌, ℕ, ◌+◌, ◌*◌, ◌/◌, ◌%◌, ◌<◌, ◌≤◌, inl, inr, Bool, true, false, cond, eqb, ltb, leb, ◌&&◌, ◌||◌, List, [], ◌∷◌, map, length, get_or, replicate, refl, sym, ap, ap₂, ◌∙◌, arith, w8, Fits}
use Rattle.std.proofs.lemmas.Bool.{cases_lt, cases_Bool, true≢false}
use Rattle.std.proofs.lemmas.Bool.Decides.{nat_tests}
use Rattle.std.proofs.lemmas.List.{length-map, get_or-map}
use Rattle.std.proofs.lemmas.Simd.{zip2_of_maps, splat_is_map, length-zip2, get_or-zip2, Each1-get_or}
use Rattle.std.proofs.lemmas.Str.{encode_ascii}
use lib.Bits.{bit_or, bit_and}
use lib.Lanes.{zip2, sel_l, top, Each1}
use Rattle.yaml_text.specs.Chars.{is_char}
use Rattle.yaml_text.specs.inside.Singles.{is_single}
use Rattle.yaml_text.specs.inside.Cells.{Spells}
use Rattle.yaml_text.proofs.Characters.Utf8Spelling.{two, three}
use Rattle.yaml_text.proofs.ManyBytes.AsciiFronts.{single_char}
use Rattle.yaml_text.proofs.ManyBytes.WindowLanes.{and_lane, or_lane}

-- ---- the units, and their halves

abbrev pub units : List ℕ → List ℕ → List ℕ
units low high = zip2 (λ l h. h * 256 + l) low high

pub record Lanes (us : List ℕ) (f : ℕ → ℕ) (xs : List ℕ) : Type 0 where
  pub is : xs ≡ map f us

lows : (low high : List ℕ) → Each1 (Fits w8) low → length low ≡ length high → low ≡ map (λ u. u % 256) (units low high)
lows [] high fits same = refl
lows (l ∷ ls) [] fits same = absurd (omega arith)
lows (l ∷ ls) (h ∷ hs) fits same =
    let e : l ≡ (h * 256 + l) % 256 = omega (arith, fits.0.fits) in
    ap₂ (λ a b. a ∷ b) e (lows ls hs fits.1 (omega arith))

highs : (low high : List ℕ) → Each1 (Fits w8) low → length low ≡ length high → high ≡ map (λ u. u / 256) (units low high)
highs [] [] fits same = refl
highs [] (h ∷ hs) fits same = absurd (omega arith)
highs (l ∷ ls) [] fits same = absurd (omega arith)
highs (l ∷ ls) (h ∷ hs) fits same =
    let e : h ≡ (h * 256 + l) / 256 = omega (arith, fits.0.fits) in
    ap₂ (λ a b. a ∷ b) e (highs ls hs fits.1 (omega arith))

pub low_lanes : (low high : List ℕ) → Each1 (Fits w8) low → length low ≡ length high → Lanes (units low high) (λ u. u % 256) low
low_lanes low high fits same = record { is = lows low high fits same }

pub high_lanes : (low high : List ℕ) → Each1 (Fits w8) low → length low ≡ length high → Lanes (units low high) (λ u. u / 256) high
high_lanes low high fits same = record { is = highs low high fits same }

-- ---- operations on lanes

pub splat : (us : List ℕ) (n y : ℕ) → length us ≡ n → Lanes us (λ _. y) (replicate n y)
splat us n y long = record { is = splat_is_map us n y long }

pub both : (us : List ℕ) (g : ℕ → ℕ → ℕ) {f h : ℕ → ℕ} {xs ys : List ℕ} → Lanes us f xs → Lanes us h ys → Lanes us (λ u. g (f u) (h u)) (zip2 g xs ys)
both us g {f = f} {h = h} x y = record { is = zip2_of_maps g f h us x.is y.is }

chosen_lanes : (m f h : ℕ → ℕ) (us : List ℕ) → sel_l (map (top 7) (map m us)) (map f us) (map h us) ≡ map (λ u. cond (top 7 (m u)) (f u) (h u)) us
chosen_lanes m f h [] = refl
chosen_lanes m f h (u ∷ us) = ap (λ (l : List ℕ). cond (top 7 (m u)) (f u) (h u) ∷ l) (chosen_lanes m f h us)

pub chosen : (us : List ℕ) {m f h : ℕ → ℕ} {ms xs ys : List ℕ} → Lanes us m ms → Lanes us f xs → Lanes us h ys → Lanes us (λ u. cond (top 7 (m u)) (f u) (h u)) (sel_l (map (top 7) ms) xs ys)
chosen us {m = m} {f = f} {h = h} {ms = ms} {xs = xs} {ys = ys} i x y = record {
  is = ap (λ (l : List ℕ). sel_l (map (top 7) l) xs ys) i.is ∙ ap₂ (λ (a b : List ℕ). sel_l (map (top 7) (map m us)) a b) x.is y.is ∙ chosen_lanes m f h us;
}

pub lane_at : (us : List ℕ) (n k : ℕ) {f : ℕ → ℕ} {xs : List ℕ} → length us ≡ n → k < n → Lanes us f xs → get_or xs k 0 ≡ f (get_or us k 0)
lane_at us n k {f = f} {xs = xs} long lt x = ap (λ (l : List ℕ). get_or l k 0) x.is ∙ get_or-map f us k 0 0 (omega arith)

pub length-lanes : (us : List ℕ) (n : ℕ) {f : ℕ → ℕ} {xs : List ℕ} → length us ≡ n → Lanes us f xs → length xs ≡ n
length-lanes us n {f = f} long x = ap length x.is ∙ length-map us f ∙ long

pub length-units : (low high : List ℕ) → length low ≡ length high → length (units low high) ≡ length low
length-units low high same = length-zip2 (λ l h. h * 256 + l) low high same

-- ---- what an operation does to two lanes

abbrev pub ones_if : (ℕ → ℕ → Bool) → ℕ → ℕ → ℕ
ones_if t a b = cond (t a b) 255 0

abbrev pub plus : ℕ → ℕ → ℕ
plus a b = (a + b) % 256

abbrev pub times : ℕ → ℕ → ℕ
times a b = (a * b) % 256

abbrev pub over : ℕ → ℕ → ℕ
over a b = a / b

abbrev pub modulo : ℕ → ℕ → ℕ
modulo a b = a % b

-- a mask as a test
top_of : (b : Bool) → top 7 (cond b 255 0) ≡ b
top_of true = refl
top_of false = refl

-- ---- the bytes that spell a unit

abbrev pub upper_of : ℕ → ℕ
upper_of u = plus (times (u / 256) 4) (over (u % 256) 64)

abbrev pub last_of : ℕ → ℕ
last_of u = plus 128 (modulo (u % 256) 64)

abbrev pub is_one : ℕ → ℕ
is_one u = bit_and (ones_if eqb (u / 256) 0) (ones_if ltb (u % 256) 128)

abbrev pub is_three : ℕ → ℕ
is_three u = ones_if leb 8 (u / 256)

abbrev pub first_of : ℕ → ℕ
first_of u = cond (top 7 (is_three u)) (plus 224 (over (u / 256) 16)) (cond (top 7 (is_one u)) (u % 256) (plus 192 (upper_of u)))

abbrev pub second_of : ℕ → ℕ
second_of u = cond (top 7 (is_three u)) (plus 128 (modulo (upper_of u) 64)) (last_of u)

abbrev pub many_of : ℕ → ℕ
many_of u = cond (top 7 (is_three u)) 3 (cond (top 7 (is_one u)) 1 2)

joined_test : (a b : Bool) → top 7 (bit_and (cond a 255 0) (cond b 255 0)) ≡ (a && b)
joined_test a b = ap (top 7) (and_lane a b) ∙ top_of (a && b)

spells_three : (u : ℕ) → 2048 ≤ u → u < 65536 → Spells u (first_of u) (second_of u) (last_of u) (many_of u)
spells_three u least most =
    let b : leb 8 (u / 256) ≡ true = grind (arith, nat_tests) in
    let e : plus 224 (over (u / 256) 16) ≡ 224 + u / 4096 = omega arith in
    let f : plus 128 (modulo (upper_of u) 64) ≡ 128 + u / 64 % 64 = omega arith in
    let g : last_of u ≡ 128 + u % 64 = omega arith in
    record { few = rw b (omega arith); bytes = rw (b, e, f, g) (sym (three u least most)) }

spells_two : (u : ℕ) → 128 ≤ u → u < 2048 → Spells u (first_of u) (second_of u) (last_of u) (many_of u)
spells_two u least most =
    let b : leb 8 (u / 256) ≡ false = grind (arith, nat_tests) in
    let j : (eqb (u / 256) 0 && ltb (u % 256) 128) ≡ false = grind (arith, nat_tests) in
    let i : top 7 (is_one u) ≡ false = joined_test (eqb (u / 256) 0) (ltb (u % 256) 128) ∙ j in
    let e : plus 192 (upper_of u) ≡ 192 + u / 64 = omega arith in
    let g : last_of u ≡ 128 + u % 64 = omega arith in
    record { few = rw (b, i) (omega arith); bytes = rw (b, i, e, g) (sym (two u least most)) }

spells_one : (u : ℕ) → u < 128 → Spells u (first_of u) (second_of u) (last_of u) (many_of u)
spells_one u most =
    let b : leb 8 (u / 256) ≡ false = grind (arith, nat_tests) in
    let j : (eqb (u / 256) 0 && ltb (u % 256) 128) ≡ true = grind (arith, nat_tests) in
    let i : top 7 (is_one u) ≡ true = joined_test (eqb (u / 256) 0) (ltb (u % 256) 128) ∙ j in
    let e : u % 256 ≡ u = omega arith in
    record { few = rw (b, i) (omega arith); bytes = rw (b, i, e) (sym (encode_ascii u most)) }

pub spells : (u : ℕ) → u < 65536 → Spells u (first_of u) (second_of u) (last_of u) (many_of u)
spells u most =
    elim (cases_lt u 128) [
      | inl a ↦ spells_one u a
      | inr a ↦ elim (cases_lt u 2048) [ inl b ↦ spells_two u a b | inr b ↦ spells_three u b most ]
    ]

abbrev pub uppers : List ℕ → List ℕ → List ℕ
uppers low high = zip2 plus (zip2 times high (replicate 16 4)) (zip2 over low (replicate 16 64))

abbrev pub lasts : List ℕ → List ℕ
lasts low = zip2 plus (replicate 16 128) (zip2 modulo low (replicate 16 64))

abbrev pub ones : List ℕ → List ℕ → List ℕ
ones low high = zip2 bit_and (zip2 (ones_if eqb) high (replicate 16 0)) (zip2 (ones_if ltb) low (replicate 16 128))

abbrev pub threes : List ℕ → List ℕ
threes high = zip2 (ones_if leb) (replicate 16 8) high

abbrev pub firsts : List ℕ → List ℕ → List ℕ
firsts low high =
    sel_l (map (top 7) (threes high)) (zip2 plus (replicate 16 224) (zip2 over high (replicate 16 16)))
    (sel_l (map (top 7) (ones low high)) low (zip2 plus (replicate 16 192) (uppers low high)))

abbrev pub seconds : List ℕ → List ℕ → List ℕ
seconds low high = sel_l (map (top 7) (threes high)) (zip2 plus (replicate 16 128) (zip2 modulo (uppers low high) (replicate 16 64))) (lasts low)

abbrev pub counts : List ℕ → List ℕ → List ℕ
counts low high = sel_l (map (top 7) (threes high)) (replicate 16 3) (sel_l (map (top 7) (ones low high)) (replicate 16 1) (replicate 16 2))

abbrev pub AreHalves : List ℕ → List ℕ → Type 0
AreHalves low high = ((length low ≡ 16) × Each1 (Fits w8) low) × ((length high ≡ 16) × Each1 (Fits w8) high)

pub record AreSpelled (low high : List ℕ) : Type 0 where
  pub first : Lanes (units low high) first_of (firsts low high)
  pub second : Lanes (units low high) second_of (seconds low high)
  pub third : Lanes (units low high) last_of (lasts low)
  pub count : Lanes (units low high) many_of (counts low high)

pub are_spelled : (low high : List ℕ) → AreHalves low high → AreSpelled low high
are_spelled low high are =
    let us = units low high in
    let same : length low ≡ length high = are.0.0 ∙ sym are.1.0 in
    let long : length us ≡ 16 = length-units low high same ∙ are.0.0 in
    let l = low_lanes low high are.0.1 same in
    let h = high_lanes low high are.0.1 same in
    let all = λ (y : ℕ). splat us 16 y long in
    let upper = both us plus (both us times h (all 4)) (both us over l (all 64)) in
    let last = both us plus (all 128) (both us modulo l (all 64)) in
    let one = both us bit_and (both us (ones_if eqb) h (all 0)) (both us (ones_if ltb) l (all 128)) in
    let triple = both us (ones_if leb) (all 8) h in
    record {
      first = chosen us triple (both us plus (all 224) (both us over h (all 16))) (chosen us one l (both us plus (all 192) upper));
      second = chosen us triple (both us plus (all 128) (both us modulo upper (all 64))) last;
      third = last;
      count = chosen us triple (all 3) (chosen us one (all 1) (all 2));
    }

pub length-halves : (low high : List ℕ) → AreHalves low high → length (units low high) ≡ 16
length-halves low high are = length-units low high (are.0.0 ∙ sym are.1.0) ∙ are.0.0

unit_lane : (low high : List ℕ) (k : ℕ) → AreHalves low high → k < 16 → get_or (units low high) k 0 ≡ get_or high k 0 * 256 + get_or low k 0
unit_lane low high k are lt = get_or-zip2 (λ l h. h * 256 + l) low high k 0 0 0 (omega (arith, are.0.0)) (omega (arith, are.1.0))

unit_below : (low high : List ℕ) (k : ℕ) → AreHalves low high → k < 16 → get_or high k 0 * 256 + get_or low k 0 < 65536
unit_below low high k are lt =
    let l = Each1-get_or (Fits w8) low k 0 (omega (arith, are.0.0)) are.0.1 in
    let h = Each1-get_or (Fits w8) high k 0 (omega (arith, are.1.0)) are.1.1 in
    omega (arith, l.fits, h.fits)

equal_spelling : (u a b c n a' b' c' n' : ℕ) → a ≡ a' → b ≡ b' → c ≡ c' → n ≡ n' → Spells u a' b' c' n' → Spells u a b c n
equal_spelling u a b c n a' b' c' n' e f g h s = record { few = omega (arith, h, s.few); bytes = rw (e, f, g, h) s.bytes }

pub spells_at : (low high : List ℕ) (k : ℕ) → AreHalves low high → k < 16
    → Spells (get_or high k 0 * 256 + get_or low k 0) (get_or (firsts low high) k 0) (get_or (seconds low high) k 0) (get_or (lasts low) k 0) (get_or (counts low high) k 0)
spells_at low high k are lt =
    let us = units low high in
    let long = length-halves low high are in
    let s = are_spelled low high are in
    let u = get_or high k 0 * 256 + get_or low k 0 in
    let is = unit_lane low high k are lt in
    let a : get_or (firsts low high) k 0 ≡ first_of u = lane_at us 16 k long lt s.first ∙ ap first_of is in
    let b : get_or (seconds low high) k 0 ≡ second_of u = lane_at us 16 k long lt s.second ∙ ap second_of is in
    let c : get_or (lasts low) k 0 ≡ last_of u = lane_at us 16 k long lt s.third ∙ ap last_of is in
    let n : get_or (counts low high) k 0 ≡ many_of u = lane_at us 16 k long lt s.count ∙ ap many_of is in
    equal_spelling u _ _ _ _ _ _ _ _ a b c n (spells u (unit_below low high k are lt))

-- ---- a byte that shows whether a unit is a character

abbrev pub is_narrow : ℕ → Bool
is_narrow u = eqb (u / 256) 0 && ltb (u % 256) 160

abbrev pub is_rare : ℕ → Bool
is_rare u = (leb 216 (u / 256) && leb (u / 256) 223) || (eqb (u / 256) 255 && leb 254 (u % 256))

abbrev pub narrow_of : ℕ → ℕ
narrow_of u = bit_and (ones_if eqb (u / 256) 0) (ones_if ltb (u % 256) 160)

abbrev pub mask_of : ℕ → ℕ
mask_of u = bit_or (narrow_of u) (bit_or (bit_and (ones_if leb 216 (u / 256)) (ones_if leb (u / 256) 223)) (bit_and (ones_if eqb (u / 256) 255) (ones_if leb 254 (u % 256))))

abbrev pub shown_of : ℕ → ℕ
shown_of u = cond (top 7 (mask_of u)) (cond (top 7 (narrow_of u)) (u % 256) 128) 32

mask_is : (u : ℕ) → top 7 (mask_of u) ≡ (is_narrow u || is_rare u)
mask_is u =
    let a = and_lane (eqb (u / 256) 0) (ltb (u % 256) 160) in
    let b = and_lane (leb 216 (u / 256)) (leb (u / 256) 223) in
    let c = and_lane (eqb (u / 256) 255) (leb 254 (u % 256)) in
    ap (top 7) (ap₂ bit_or a (ap₂ bit_or b c ∙ or_lane _ _) ∙ or_lane (is_narrow u) (is_rare u)) ∙ top_of (is_narrow u || is_rare u)

narrow_is : (u : ℕ) → top 7 (narrow_of u) ≡ is_narrow u
narrow_is u = joined_test (eqb (u / 256) 0) (ltb (u % 256) 160)

narrow_low : (u : ℕ) → is_narrow u ≡ true → u % 256 ≡ u
narrow_low u h = grind (arith, nat_tests)

wide_char : (u : ℕ) → u < 65536 → is_narrow u ≡ false → is_rare u ≡ false → is_char u ≡ true
unfolding is_char
wide_char u most a b = grind (arith, nat_tests)

shown_char : (u : ℕ) → u < 65536 → is_single (shown_of u) ≡ true → is_char u ≡ true
shown_char u most h =
    elim (cases_Bool (is_narrow u)) [
      | inl a ↦
          let e : shown_of u ≡ u = let m = mask_is u in let n = narrow_is u in let l = narrow_low u a in rw (m, n, a) l in
          single_char u (ap is_single (sym e) ∙ h)
      | inr a ↦ elim (cases_Bool (is_rare u)) [
        | inl b ↦
            let e : shown_of u ≡ 128 = let m = mask_is u in let n = narrow_is u in rw (m, n, a, b) refl in
            let no : false ≡ true = ap is_single (sym e) ∙ h in
            absurd (true≢false (sym no))
        | inr b ↦ wide_char u most a b
      ]
    ]

abbrev pub narrows : List ℕ → List ℕ → List ℕ
narrows low high = zip2 bit_and (zip2 (ones_if eqb) high (replicate 16 0)) (zip2 (ones_if ltb) low (replicate 16 160))

abbrev pub rares : List ℕ → List ℕ → List ℕ
rares low high =
    zip2 bit_or (zip2 bit_and (zip2 (ones_if leb) (replicate 16 216) high) (zip2 (ones_if leb) high (replicate 16 223)))
    (zip2 bit_and (zip2 (ones_if eqb) high (replicate 16 255)) (zip2 (ones_if leb) (replicate 16 254) low))

abbrev pub showns : List ℕ → List ℕ → List ℕ
showns low high =
    sel_l (map (top 7) (zip2 bit_or (narrows low high) (rares low high)))
    (sel_l (map (top 7) (narrows low high)) low (replicate 16 128)) (replicate 16 32)

pub shown_lanes : (low high : List ℕ) → AreHalves low high → Lanes (units low high) shown_of (showns low high)
shown_lanes low high are =
    let us = units low high in
    let same : length low ≡ length high = are.0.0 ∙ sym are.1.0 in
    let l = low_lanes low high are.0.1 same in
    let h = high_lanes low high are.0.1 same in
    let all = λ (y : ℕ). splat us 16 y (length-halves low high are) in
    let narrow = both us bit_and (both us (ones_if eqb) h (all 0)) (both us (ones_if ltb) l (all 160)) in
    let surrogate = both us bit_and (both us (ones_if leb) (all 216) h) (both us (ones_if leb) h (all 223)) in
    let last = both us bit_and (both us (ones_if eqb) h (all 255)) (both us (ones_if leb) (all 254) l) in
    chosen us (both us bit_or narrow (both us bit_or surrogate last)) (chosen us narrow l (all 128)) (all 32)

pub char_at : (low high : List ℕ) (k : ℕ) → AreHalves low high → k < 16 → is_single (get_or (showns low high) k 0) ≡ true → is_char (get_or high k 0 * 256 + get_or low k 0) ≡ true
char_at low high k are lt h =
    let u = get_or high k 0 * 256 + get_or low k 0 in
    let is : get_or (showns low high) k 0 ≡ shown_of u = lane_at (units low high) 16 k (length-halves low high are) lt (shown_lanes low high are) ∙ ap shown_of (unit_lane low high k are lt) in
    shown_char u (unit_below low high k are lt) (ap is_single (sym is) ∙ h)

-- Sixteen units of UTF-16 that are cut at 7F, as bytes, and which of these are no characters by themselves.
use Rattle.std.proofs.Common.{◌≡◌, ℕ, zero, suc, ◌+◌, ◌*◌, ◌/◌, ◌<◌, ◌≤◌, Bool, true, false, cond, eqb, ltb, leb, List, [], ◌∷◌, ◌++◌, length, get_or, take, drop, map, replicate, refl, sym, ap, ap₂, ◌∙◌, arith, w8, w16, Fits, eqb→eq}
use Rattle.std.proofs.lemmas.Bool.{true≢false, ltb-true, lt-leb}
use Rattle.std.proofs.lemmas.List.{get_or-map, get_or_append_left}
use Rattle.std.proofs.lemmas.Simd.{get_or-sel_l, length-sel_l, get_or-replicate, get_or-zip2, length-zip2, tops_compared, Each1-from_get_or, get_or_wider, zip2_of_maps, swz_l}
use Rattle.std.proofs.Math.Seq.{drop-cons}
use lib.Bits.{bit_and, bit_xor, and_le_r}
use lib.Lanes.{zip2, sel_l, top, Each1, number_l, digits_l}
use Rattle.yaml_text.specs.inside.Singles.{is_single}
use Rattle.yaml_text.proofs.ManyBytes.CellLanes.{picked, right_at}
use Rattle.yaml_text.proofs.ManyBytes.VectorLanes.{upto_sound}

-- ---- low and high bytes by turns make units

abbrev pub all_turns : List ℕ
all_turns = 0 ∷ 16 ∷ 1 ∷ 17 ∷ 2 ∷ 18 ∷ 3 ∷ 19 ∷ 4 ∷ 20 ∷ 5 ∷ 21 ∷ 6 ∷ 22 ∷ 7 ∷ 23 ∷ 8 ∷ 24 ∷ 9 ∷ 25 ∷ 10 ∷ 26 ∷ 11 ∷ 27 ∷ 12 ∷ 28 ∷ 13 ∷ 29 ∷ 14 ∷ 30 ∷ 15 ∷ 31 ∷ []

low_at : (x y : List ℕ) (k : ℕ) → length x ≡ 16 → k < 16 → get_or (picked all_turns x y) (2 * k) 0 ≡ get_or x k 0
low_at x y k long lt =
    let place : get_or all_turns (2 * k) 0 ≡ k = eqb→eq _ _ (upto_sound (λ i. eqb (get_or all_turns (2 * i) 0) i) 16 tt k lt) in
    get_or-map (λ j. get_or (x ++ y) j 0) all_turns (2 * k) 0 0 (omega arith) ∙ ap (λ j. get_or (x ++ y) j 0) place ∙ get_or_append_left x y 0 k (omega arith)

high_at : (x y : List ℕ) (k : ℕ) → length x ≡ 16 → k < 16 → get_or (picked all_turns x y) (2 * k + 1) 0 ≡ get_or y k 0
high_at x y k long lt =
    let place : get_or all_turns (2 * k + 1) 0 ≡ 16 + k = eqb→eq _ _ (upto_sound (λ i. eqb (get_or all_turns (2 * i + 1) 0) (16 + i)) 16 tt k lt) in
    get_or-map (λ j. get_or (x ++ y) j 0) all_turns (2 * k + 1) 0 0 (omega arith) ∙ ap (λ j. get_or (x ++ y) j 0) place ∙ right_at x y k long

two_at : (l : List ℕ) (i : ℕ) → i + 2 ≤ length l → take 2 (drop i l) ≡ get_or l i 0 ∷ get_or l (i + 1) 0 ∷ []
two_at l i le =
    let e : suc i ≡ i + 1 = omega arith in
    let one = drop-cons l i 0 (omega arith) ∙ ap (λ j. get_or l i 0 ∷ drop j l) e in
    ap (take 2) one ∙ ap (λ (t : List ℕ). get_or l i 0 ∷ take 1 t) (drop-cons l (i + 1) 0 (omega arith))

byte_at : (l : List ℕ) (j : ℕ) → Each1 (Fits w8) l → get_or l j 0 < 256
byte_at [] j fits = omega arith
byte_at (x ∷ l) zero fits = fits.0.fits
byte_at (x ∷ l) (suc j) fits = byte_at l j fits.1

both_fit : (x y : List ℕ) → Each1 (Fits w8) x → Each1 (Fits w8) y → Each1 (Fits w8) (x ++ y)
both_fit [] y fx fy = fy
both_fit (a ∷ x) y fx fy = (fx.0, both_fit x y fx.1 fy)

picked_fit : (places x y : List ℕ) → Each1 (Fits w8) (x ++ y) → Each1 (λ b. b < 256) (picked places x y)
picked_fit [] x y fits = tt
picked_fit (j ∷ places) x y fits = (byte_at (x ++ y) j fits, picked_fit places x y fits)

pub joined_unit : (x y : List ℕ) (k : ℕ) → length x ≡ 16 → Each1 (Fits w8) x → Each1 (Fits w8) y → k < 16
    → get_or (digits_l 65536 16 (number_l 256 (picked all_turns x y))) k 0 ≡ get_or y k 0 * 256 + get_or x k 0
joined_unit x y k long fx fy lt =
    let l = picked all_turns x y in
    let a = low_at x y k long lt in
    let b = high_at x y k long lt in
    get_or_wider 256 2 65536 16 l k refl (picked_fit all_turns x y (both_fit x y fx fy)) lt ∙ ap (number_l 256) (two_at l (2 * k) (omega arith)) ∙ omega (arith, a, b)

-- ---- units that are cut at 7F

abbrev pub less : ℕ → ℕ → ℕ
less a b = cond (ltb a b) 65535 0

abbrev pub cut : List ℕ → List ℕ
cut u = sel_l (map (top 15) (zip2 less u (replicate 16 127))) u (replicate 16 127)

cut_at : (u : List ℕ) (k : ℕ) → length u ≡ 16 → k < 16 → get_or (cut u) k 0 ≡ cond (ltb (get_or u k 0) 127) (get_or u k 0) 127
cut_at u k long lt =
    let ms = map (top 15) (zip2 less u (replicate 16 127)) in
    let is : ms ≡ zip2 ltb u (replicate 16 127) = tops_compared w16 ltb u (replicate 16 127) in
    let size : length ms ≡ 16 = ap length is ∙ length-zip2 ltb u (replicate 16 127) long ∙ long in
    let bit : get_or ms k false ≡ ltb (get_or u k 0) 127 =
    ap (λ m. get_or m k false) is ∙ get_or-zip2 ltb u (replicate 16 127) k 0 0 false (omega arith) lt ∙ ap (ltb (get_or u k 0)) (get_or-replicate 16 k 127 0 lt) in
    get_or-sel_l ms u (replicate 16 127) k 0 (omega arith) (omega arith) lt
    ∙ ap₂ (λ b d. cond b (get_or u k 0) d) bit (get_or-replicate 16 k 127 0 lt)

pub length-cut : (u : List ℕ) → length u ≡ 16 → length (cut u) ≡ 16
length-cut u long =
    let ms = map (top 15) (zip2 less u (replicate 16 127)) in
    let is : ms ≡ zip2 ltb u (replicate 16 127) = tops_compared w16 ltb u (replicate 16 127) in
    let size : length ms ≡ 16 = ap length is ∙ length-zip2 ltb u (replicate 16 127) long ∙ long in
    length-sel_l ms u (replicate 16 127) (omega arith) size ∙ size

most : (a : ℕ) (b : Bool) → b ≡ ltb a 127 → cond b a 127 < 128
most a true is = omega (arith, ltb-true a 127 (sym is))
most a false is = omega arith

pub cut_below : (u : List ℕ) → length u ≡ 16 → Each1 (λ b. b < 128) (cut u)
cut_below u long = Each1-from_get_or (λ b. b < 128) (cut u) 0 (λ i lt. omega (arith, cut_at u i long (omega (arith, length-cut u long)), most (get_or u i 0) (ltb (get_or u i 0) 127) refl))

uncut : (a z : ℕ) (b : Bool) → z ≡ cond b a 127 → is_single z ≡ true → a ≡ z
uncut a z true is s = sym is
uncut a z false is s = let no : false ≡ true = ap is_single (sym is) ∙ s in absurd (true≢false (sym no))

pub cut_single : (u : List ℕ) (k : ℕ) → length u ≡ 16 → k < 16 → is_single (get_or (cut u) k 0) ≡ true → get_or u k 0 ≡ get_or (cut u) k 0
cut_single u k long lt s = uncut (get_or u k 0) (get_or (cut u) k 0) (ltb (get_or u k 0) 127) (cut_at u k long lt) s

-- ---- bytes of ASCII that are no characters by themselves

abbrev pub exceptions : List ℕ
exceptions = 128 ∷ 128 ∷ 128 ∷ 128 ∷ 128 ∷ 128 ∷ 128 ∷ 128 ∷ 128 ∷ 9 ∷ 10 ∷ 128 ∷ 128 ∷ 13 ∷ 128 ∷ 127 ∷ []

place : (i j : ℕ) → i < 16 → 16 * (i / 16) + j ≡ j
place i j lt = omega arith

found_there : (table : List ℕ) (i j : ℕ) → i < 16 → j < 16 → cond (leb 128 j) 0 (get_or table (16 * (i / 16) + j) 0) ≡ get_or table j 0
found_there table i j lt few = ap₂ (λ b m. cond b 0 (get_or table m 0)) (lt-leb 128 j (omega arith)) (place i j lt)

pub looked_up : (table v : List ℕ) (i : ℕ) → i + length v ≤ 16 → swz_l w8 16 table i (map (λ x. bit_and x 15) v) ≡ map (λ x. get_or table (bit_and x 15) 0) v
looked_up table [] i room = refl
looked_up table (x ∷ v) i room = ap₂ (λ a (l : List ℕ). a ∷ l) (found_there table i (bit_and x 15) (omega arith) (omega (arith, and_le_r x 15))) (looked_up table v (suc i) (omega arith))

abbrev pub hit : ℕ → ℕ → ℕ
hit a b = cond (eqb a b) 255 0

itself : (v : List ℕ) → v ≡ map (λ x. x) v
itself [] = refl
itself (x ∷ v) = ap (λ (l : List ℕ). x ∷ l) (itself v)

pub same_as : (table v e : List ℕ) → e ≡ map (λ x. get_or table (bit_and x 15) 0) v → zip2 hit v e ≡ map (λ x. hit x (get_or table (bit_and x 15) 0)) v
same_as table v e is = zip2_of_maps hit (λ x. x) (λ x. get_or table (bit_and x 15) 0) v (itself v) is

pub one_of_two : (f g : ℕ → ℕ) (v : List ℕ) {a b : List ℕ} → a ≡ map f v → b ≡ map g v → zip2 bit_xor a b ≡ map (λ x. bit_xor (f x) (g x)) v
one_of_two f g v p q = zip2_of_maps bit_xor f g v p q

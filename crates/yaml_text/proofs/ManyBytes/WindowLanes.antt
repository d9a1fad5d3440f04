-- A vector that is computed lane by lane from windows of bytes is a test of each window.
use Rattle.std.proofs.Common.{◌≡◌, ℕ, zero, suc, ◌+◌, ◌%◌, ◌^◌, ◌<◌, ◌≤◌, Bool, true, false, not, ◌&&◌, ◌||◌, cond, ltb, leb, List, [], ◌∷◌, map, length, get_or, take, drop, replicate, refl, sym, ap, ap₂, ◌∙◌, subst, arith, w8, Fits}
use Rattle.std.proofs.lemmas.Bool.{true≢false}
use Rattle.std.proofs.lemmas.List.{length-map, length-drop, drop-drop}
use Rattle.std.proofs.lemmas.List.Sums.{prefix_len_passes}
use Rattle.std.proofs.lemmas.Simd.{zip2_splat, map-map, mask_l-mod, leading_from_mask_l, zip2_of_maps, splat_is_map}
use Rattle.std.proofs.Math.Seq.{drop-cons}
use lib.Bits.{bit_or, bit_and, bit_xor}
use lib.Lanes.{zip2, sel_l, mask_l, top, Each1}
use Rattle.yaml_text.specs.inside.Windows.{column, lanes, differ}
use Rattle.yaml_text.proofs.ManyBytes.VectorLanes.{from_splat}

-- ---- comparisons with a splat

abbrev pub ones_if : (ℕ → ℕ → Bool) → ℕ → ℕ → ℕ
ones_if t a b = cond (t a b) 255 0

-- the lanes are all ones where the test of the window succeeds
pub record Tests (ts : List (List ℕ)) (p : List ℕ → Bool) (xs : List ℕ) : Type 0 where
  pub is : xs ≡ lanes p ts

pub compared : (t : ℕ → ℕ → Bool) (d y n : ℕ) (ts : List (List ℕ)) (v : List ℕ) → v ≡ column d ts → length v ≡ n → Tests ts (λ s. t (get_or s d 0) y) (zip2 (ones_if t) v (replicate n y))
compared t d y n ts v is long = record { is = zip2_splat (ones_if t) v n y long ∙ ap (map (λ x. ones_if t x y)) is ∙ map-map (λ x. ones_if t x y) (λ s. get_or s d 0) ts }

pub compared_left : (t : ℕ → ℕ → Bool) (d y n : ℕ) (ts : List (List ℕ)) (v : List ℕ) → v ≡ column d ts → length v ≡ n → Tests ts (λ s. t y (get_or s d 0)) (zip2 (ones_if t) (replicate n y) v)
compared_left t d y n ts v is long = record { is = from_splat (ones_if t) y n v long ∙ ap (map (ones_if t y)) is ∙ map-map (ones_if t y) (λ s. get_or s d 0) ts }

-- ---- masks that are joined

pub and_lane : (a b : Bool) → bit_and (cond a 255 0) (cond b 255 0) ≡ cond (a && b) 255 0
and_lane true true = refl
and_lane true false = refl
and_lane false true = refl
and_lane false false = refl

pub or_lane : (a b : Bool) → bit_or (cond a 255 0) (cond b 255 0) ≡ cond (a || b) 255 0
or_lane true true = refl
or_lane true false = refl
or_lane false true = refl
or_lane false false = refl

xor_lane : (a b : Bool) → bit_xor (cond a 255 0) (cond b 255 0) ≡ cond (differ a b) 255 0
xor_lane true true = refl
xor_lane true false = refl
xor_lane false true = refl
xor_lane false false = refl

joined_lanes : (f : ℕ → ℕ → ℕ) (g : Bool → Bool → Bool) → ((a b : Bool) → f (cond a 255 0) (cond b 255 0) ≡ cond (g a b) 255 0) → (p q : List ℕ → Bool) (ts : List (List ℕ)) → zip2 f (lanes p ts) (lanes q ts) ≡ lanes (λ t. g (p t) (q t)) ts
joined_lanes f g lane p q [] = refl
joined_lanes f g lane p q (t ∷ ts) = ap₂ (λ a b. a ∷ b) (lane (p t) (q t)) (joined_lanes f g lane p q ts)

pub both : (ts : List (List ℕ)) {p q : List ℕ → Bool} {xs ys : List ℕ} → Tests ts p xs → Tests ts q ys → Tests ts (λ t. p t && q t) (zip2 bit_and xs ys)
both ts {p = p} {q = q} x y = record { is = ap₂ (zip2 bit_and) x.is y.is ∙ joined_lanes bit_and ◌&&◌ and_lane p q ts }

pub either : (ts : List (List ℕ)) {p q : List ℕ → Bool} {xs ys : List ℕ} → Tests ts p xs → Tests ts q ys → Tests ts (λ t. p t || q t) (zip2 bit_or xs ys)
either ts {p = p} {q = q} x y = record { is = ap₂ (zip2 bit_or) x.is y.is ∙ joined_lanes bit_or ◌||◌ or_lane p q ts }

pub one_of_two : (ts : List (List ℕ)) {p q : List ℕ → Bool} {xs ys : List ℕ} → Tests ts p xs → Tests ts q ys → Tests ts (λ t. differ (p t) (q t)) (zip2 bit_xor xs ys)
one_of_two ts {p = p} {q = q} x y = record { is = ap₂ (zip2 bit_xor) x.is y.is ∙ joined_lanes bit_xor differ xor_lane p q ts }

-- ---- values that are computed from windows

-- the lanes are values of the windows
pub record Values (ts : List (List ℕ)) (f : List ℕ → ℕ) (xs : List ℕ) : Type 0 where
  pub is : xs ≡ map f ts

pub column_value : (d : ℕ) (ts : List (List ℕ)) {v : List ℕ} → v ≡ column d ts → Values ts (λ s. get_or s d 0) v
column_value d ts is = record { is = is }

pub splat_value : (y n : ℕ) (ts : List (List ℕ)) → length ts ≡ n → Values ts (λ s. y) (replicate n y)
splat_value y n ts long = record { is = splat_is_map ts n y long }

pub joined_values : (h : ℕ → ℕ → ℕ) (ts : List (List ℕ)) {f g : List ℕ → ℕ} {xs ys : List ℕ} → Values ts f xs → Values ts g ys → Values ts (λ s. h (f s) (g s)) (zip2 h xs ys)
joined_values h ts {f = f} {g = g} x y = record { is = zip2_of_maps h f g ts x.is y.is }

pub compared_values : (t : ℕ → ℕ → Bool) (ts : List (List ℕ)) {f g : List ℕ → ℕ} {xs ys : List ℕ} → Values ts f xs → Values ts g ys → Tests ts (λ s. t (f s) (g s)) (zip2 (ones_if t) xs ys)
compared_values t ts {f = f} {g = g} x y = record { is = zip2_of_maps (ones_if t) f g ts x.is y.is }

set_bit : (a : Bool) → top 7 (cond a 255 0) ≡ a
set_bit true = refl
set_bit false = refl

chosen_lanes : (p : List ℕ → Bool) (f g : List ℕ → ℕ) (ts : List (List ℕ)) → sel_l (map (top 7) (lanes p ts)) (map f ts) (map g ts) ≡ map (λ s. cond (p s) (f s) (g s)) ts
chosen_lanes p f g [] = refl
chosen_lanes p f g (t ∷ ts) = ap₂ (λ (a : ℕ) b. a ∷ b) (ap (λ b. cond b (f t) (g t)) (set_bit (p t))) (chosen_lanes p f g ts)

pub chosen : (ts : List (List ℕ)) {p : List ℕ → Bool} {f g : List ℕ → ℕ} {ms xs ys : List ℕ} → Tests ts p ms → Values ts f xs → Values ts g ys → Values ts (λ s. cond (p s) (f s) (g s)) (sel_l (map (top 7) ms) xs ys)
chosen ts {p = p} {f = f} {g = g} {xs = xs} {ys = ys} m x y =
    record { is = ap (λ l. sel_l (map (top 7) l) xs ys) m.is ∙ ap₂ (sel_l (map (top 7) (lanes p ts))) x.is y.is ∙ chosen_lanes p f g ts }

pub same_values : (f g : List ℕ → ℕ) (ts : List (List ℕ)) → ((t : List ℕ) → f t ≡ g t) → map f ts ≡ map g ts
same_values f g [] h = refl
same_values f g (t ∷ ts) h = ap₂ (λ (a : ℕ) b. a ∷ b) (h t) (same_values f g ts h)

-- the same test of each window whose byte d places on is a byte
byte_lanes : (d : ℕ) (p q : List ℕ → Bool) (ts : List (List ℕ)) → Each1 (Fits w8) (column d ts) → ((t : List ℕ) → get_or t d 0 < 256 → p t ≡ q t) → lanes p ts ≡ lanes q ts
byte_lanes d p q [] fits h = refl
byte_lanes d p q (t ∷ ts) fits h = ap₂ (λ (a : ℕ) b. a ∷ b) (ap (λ b. cond b 255 0) (h t fits.0.fits)) (byte_lanes d p q ts fits.1 h)

pub same_lanes : (d : ℕ) (p q : List ℕ → Bool) (ts : List (List ℕ)) (v : List ℕ) → v ≡ column d ts → Each1 (Fits w8) v → ((t : List ℕ) → get_or t d 0 < 256 → p t ≡ q t) → lanes p ts ≡ lanes q ts
same_lanes d p q ts v is fits h = byte_lanes d p q ts (subst (λ l. Each1 (Fits w8) l) is fits) h

-- ---- a mask as a vector, and as a number

set_lane : (a : Bool) → ◌≡◌ {A = ℕ} (cond (top 7 (cond a 255 0)) 255 0) (cond a 255 0)
set_lane true = refl
set_lane false = refl

set_lanes : (p : List ℕ → Bool) (ts : List (List ℕ)) → sel_l (map (top 7) (lanes p ts)) (replicate (length ts) 255) (replicate (length ts) 0) ≡ lanes p ts
set_lanes p [] = refl
set_lanes p (t ∷ ts) = ap₂ (λ a b. a ∷ b) (set_lane (p t)) (set_lanes p ts)

pub length-windows : (d n : ℕ) (ts : List (List ℕ)) (v : List ℕ) → v ≡ column d ts → length v ≡ n → length ts ≡ n
length-windows d n ts v is long = sym (length-map ts (λ s. get_or s d 0)) ∙ sym (ap length is) ∙ long

pub selected : (n : ℕ) (ts : List (List ℕ)) {p : List ℕ → Bool} {xs : List ℕ} → length ts ≡ n → Tests ts p xs → sel_l (map (top 7) xs) (replicate n 255) (replicate n 0) ≡ lanes p ts
selected n ts {p = p} long x = ap₂ (λ k (l : List ℕ). sel_l (map (top 7) l) (replicate k 255) (replicate k 0)) (sym long) x.is ∙ set_lanes p ts

top_lane : (a : Bool) → top 7 (ones_if leb 128 (cond a 255 0)) ≡ a
top_lane true = refl
top_lane false = refl

tops : (p : List ℕ → Bool) (ts : List (List ℕ)) → map (top 7) (map (ones_if leb 128) (lanes p ts)) ≡ map p ts
tops p [] = refl
tops p (t ∷ ts) = ap₂ (λ a b. a ∷ b) (top_lane (p t)) (tops p ts)

not_not : (a : Bool) → not a ≡ true → a ≡ false
not_not true h = absurd (true≢false (sym h))
not_not false h = refl

-- where no bit of the mask is set, no window passes the test
pub none_pass : (n : ℕ) (ts : List (List ℕ)) {p : List ℕ → Bool} {xs : List ℕ} → n ≤ 64 → length ts ≡ n → Tests ts p xs → mask_l (map (top 7) (zip2 (ones_if leb) (replicate n 128) xs)) % 2 ^ 64 ≡ 0 → (k : ℕ) → k < n → p (get_or ts k []) ≡ false
none_pass n ts {p = p} {xs = xs} few long x none k lt =
    let size : length xs ≡ n = ap length x.is ∙ length-map ts (λ t. cond (p t) 255 0) ∙ long in
    let bits : map (top 7) (zip2 (ones_if leb) (replicate n 128) xs) ≡ map p ts =
    ap (map (top 7)) (from_splat (ones_if leb) 128 n xs size ∙ ap (map (ones_if leb 128)) x.is) ∙ tops p ts in
    let empty : mask_l (map p ts) ≡ 0 = sym (mask_l-mod (map p ts) 64 (omega (arith, length-map ts p))) ∙ ap (λ l. mask_l l % 2 ^ 64) (sym bits) ∙ none in
    let all = leading_from_mask_l p ts empty in
    not_not (p (get_or ts k [])) (prefix_len_passes (λ t. not (p t)) ts k [] (omega arith))

low_lane : (a : Bool) → top 7 (ones_if ltb (cond a 255 0) 128) ≡ not a
low_lane true = refl
low_lane false = refl

lows : (p : List ℕ → Bool) (ts : List (List ℕ)) → map (top 7) (map (λ x. ones_if ltb x 128) (lanes p ts)) ≡ map (λ t. not (p t)) ts
lows p [] = refl
lows p (t ∷ ts) = ap₂ (λ a b. a ∷ b) (low_lane (p t)) (lows p ts)

twice_not : (a : Bool) → not (not a) ≡ true → a ≡ true
twice_not true h = refl
twice_not false h = h

-- where no lane is low, each window passes the test
pub all_pass : (n : ℕ) (ts : List (List ℕ)) {p : List ℕ → Bool} {xs : List ℕ} → n ≤ 64 → length ts ≡ n → Tests ts p xs → mask_l (map (top 7) (zip2 (ones_if ltb) xs (replicate n 128))) % 2 ^ 64 ≡ 0 → (k : ℕ) → k < n → p (get_or ts k []) ≡ true
all_pass n ts {p = p} {xs = xs} few long x none k lt =
    let size : length xs ≡ n = ap length x.is ∙ length-map ts (λ t. cond (p t) 255 0) ∙ long in
    let bits : map (top 7) (zip2 (ones_if ltb) xs (replicate n 128)) ≡ map (λ t. not (p t)) ts =
    ap (map (top 7)) (zip2_splat (ones_if ltb) xs n 128 size ∙ ap (map (λ x. ones_if ltb x 128)) x.is) ∙ lows p ts in
    let empty : mask_l (map (λ t. not (p t)) ts) ≡ 0 = sym (mask_l-mod (map (λ t. not (p t)) ts) 64 (omega (arith, length-map ts (λ t. not (p t))))) ∙ ap (λ l. mask_l l % 2 ^ 64) (sym bits) ∙ none in
    let all = leading_from_mask_l (λ t. not (p t)) ts empty in
    twice_not (p (get_or ts k [])) (prefix_len_passes (λ t. not (not (p t))) ts k [] (omega arith))

-- ---- the windows of a slice

abbrev pub windows : ℕ → List ℕ → List (List ℕ)
windows zero xs = []
windows (suc n) xs = xs ∷ windows n (drop 1 xs)

pub length-all_windows : (n : ℕ) (xs : List ℕ) → length (windows n xs) ≡ n
length-all_windows zero xs = refl
length-all_windows (suc n) xs = ap suc (length-all_windows n (drop 1 xs))

later : (k : ℕ) (xs : List ℕ) → drop k (drop 1 xs) ≡ drop (suc k) xs
later k xs = let e : 1 + k ≡ suc k = omega arith in drop-drop k 1 xs ∙ ap (λ i. drop i xs) e

pub window_at : (n k : ℕ) (xs : List ℕ) → k < n → get_or (windows n xs) k [] ≡ drop k xs
window_at zero k xs lt = absurd (omega arith)
window_at (suc n) zero xs lt = refl
window_at (suc n) (suc k) xs lt = window_at n k (drop 1 xs) (omega arith) ∙ later k xs

-- a load from d bytes on
pub loaded : (d n : ℕ) (xs : List ℕ) → d + n ≤ length xs → take n (drop d xs) ≡ column d (windows n xs)
loaded d zero xs le = refl
loaded d (suc n) xs le =
    let here = drop-cons xs d 0 (omega arith) in
    ap (take (suc n)) here ∙ ap (λ (l : List ℕ). get_or xs d 0 ∷ take n l) (sym (later d xs)) ∙ ap (λ (l : List ℕ). get_or xs d 0 ∷ l) (loaded d n (drop 1 xs) (omega (arith, length-drop 1 xs)))

-- Characters are counted by the bits of a mask.
use Rattle.std.proofs.Common.{◌≡◌, ℕ, ◌+◌, ◌-◌, ◌*◌, ◌%◌, ◌^◌, ◌≤◌, Bool, true, false, cond, zero, suc, List, [], ◌∷◌, ◌++◌, map, length, take, drop, refl, sym, ap, ◌∙◌, arith}
use Rattle.std.proofs.Math.Nat.{pow-succ', add-mul-mod_self_left}
use Rattle.std.proofs.Math.Seq.{take-add}
use Rattle.std.proofs.lemmas.List.{take-append-drop, length-take, take-map, take-take}
use Rattle.std.proofs.lemmas.Bool.{true≢false}
use Rattle.std.proofs.lemmas.List.Sums.{sum_by-append, sum_by-cons, count_by-le-length}
use Rattle.std.proofs.lemmas.Nat.{and_mask}
use Rattle.std.proofs.lemmas.Simd.{mask_l-mod, ones-mask_l}
use Rattle.std.proofs.lemmas.List.{length-map}
use Rattle.std.specs.Int.RustNames.{count_ones}
use Rattle.std.specs.List.{count_by}
use lib.Bits.{bit_and}
use lib.Lanes.{mask_l, chunk}

mask_cons : (a m p b n : ℕ) → m ≡ a + p * n → b + 2 * m ≡ (b + 2 * a) + (2 * p) * n
mask_cons a m p b n e = omega arith

mask-append : (xs ys : List Bool) → mask_l (xs ++ ys) ≡ mask_l xs + 2 ^ length xs * mask_l ys
mask-append [] ys = omega arith
mask-append (x ∷ xs) ys = rw pow-succ' (mask_cons (mask_l xs) (mask_l (xs ++ ys)) (2 ^ length xs) (cond x 1 0) (mask_l ys) (mask-append xs ys))

mask_front : (bs : List Bool) (n : ℕ) → n ≤ length bs → mask_l bs % 2 ^ n ≡ mask_l (take n bs)
mask_front bs n h =
    let k : length (take n bs) ≡ n = omega (arith, length-take n bs) in
    let parts : mask_l bs ≡ mask_l (take n bs) + 2 ^ n * mask_l (drop n bs) = ap mask_l (sym (take-append-drop n bs)) ∙ mask-append (take n bs) (drop n bs) ∙ ap (λ i. mask_l (take n bs) + 2 ^ i * mask_l (drop n bs)) k in
    ap (λ m. m % 2 ^ n) parts ∙ add-mul-mod_self_left (mask_l (take n bs)) (2 ^ n) (mask_l (drop n bs)) ∙ mask_l-mod (take n bs) n (omega arith)

-- the bits below the n-th count the first n
pub counted_front : (p : ℕ → Bool) (v : List ℕ) (n m : ℕ) → n ≤ length v → m ≡ mask_l (map p v) → count_ones (bit_and m (2 ^ n - 1)) ≡ count_by p (take n v)
counted_front p v n m h e =
    ap (λ x. count_ones (bit_and x (2 ^ n - 1))) e ∙ ap count_ones (and_mask (mask_l (map p v)) n ∙ mask_front (map p v) n (omega (arith, length-map v p)) ∙ ap mask_l (take-map p n v)) ∙ ones-mask_l p (take n v)

-- a count goes on by the first k of a vector
pub count_stops : (p : ℕ → Bool) (d : List ℕ) (i k n c : ℕ) → n ≡ count_by p (take i d) → k ≤ 16 → c ≡ count_by p (take k (chunk i 16 d)) → n + c ≡ count_by p (take (i + k) d)
count_stops p d i k n c e h s =
    let t : count_by p (take (i + k) d) ≡ count_by p (take i d) + count_by p (take k (drop i d)) = ap (count_by p) (take-add i k d) ∙ sum_by-append (λ x. cond (p x) 1 0) (take i d) (take k (drop i d)) in
    let u : c ≡ count_by p (take k (drop i d)) = s ∙ ap (count_by p) (take-take k 16 (drop i d) h) in
    omega (arith, t, u, e)

-- and by all of it
pub count_goes : (p : ℕ → Bool) (d : List ℕ) (i n m : ℕ) → n ≡ count_by p (take i d) → m ≡ mask_l (map p (chunk i 16 d)) → n + count_ones m ≡ count_by p (take (i + 16) d)
count_goes p d i n m e s =
    let t : count_by p (take (i + 16) d) ≡ count_by p (take i d) + count_by p (take 16 (drop i d)) = ap (count_by p) (take-add i 16 d) ∙ sum_by-append (λ x. cond (p x) 1 0) (take i d) (take 16 (drop i d)) in
    let u : count_ones m ≡ count_by p (chunk i 16 d) = ap count_ones s ∙ ones-mask_l p (chunk i 16 d) in
    omega (arith, t, u, e)

pub count_small : (p : ℕ → Bool) (n : ℕ) (xs : List ℕ) → count_by p (take n xs) ≤ n
count_small p n xs = omega (arith, count_by-le-length p (take n xs), length-take n xs)

-- and by a part
pub count_part : (p : ℕ → Bool) (d : List ℕ) (i e n c : ℕ) → n ≡ count_by p (take i d) → i ≤ e → c ≡ count_by p (take (e - i) (drop i d)) → n + c ≡ count_by p (take e d)
count_part p d i e n c h l s =
    let k : i + (e - i) ≡ e = omega arith in
    let t : count_by p (take (i + (e - i)) d) ≡ count_by p (take i d) + count_by p (take (e - i) (drop i d)) = ap (count_by p) (take-add i (e - i) d) ∙ sum_by-append (λ x. cond (p x) 1 0) (take i d) (take (e - i) (drop i d)) in
    let u : count_by p (take (i + (e - i)) d) ≡ count_by p (take e d) = ap (λ j. count_by p (take j d)) k in
    omega (arith, t, u, h, s)

-- A lane that is ASCII begins a character, and so do the first n if all are.
begin_here : (q b : Bool) (m c n : ℕ) → (q ≡ false → b ≡ true) → cond q 1 0 + 2 * m ≡ 0 → (m ≡ 0 → c ≡ n)
    → cond b 1 0 + c ≡ suc n
begin_here true b m c n one e rest = let no : ⊥ = omega (arith, e) in absurd no
begin_here false true m c n one e rest = let z = rest (omega (arith, e)) in omega (arith, z)
begin_here false false m c n one e rest = absurd (true≢false (sym (one refl)))

module _ (q p : ℕ → Bool) (one : (x : ℕ) → q x ≡ false → p x ≡ true) where
  pub all_counted : (n : ℕ) (v : List ℕ) → n ≤ length v → mask_l (map q v) ≡ 0 → count_by p (take n v) ≡ n
  all_counted zero v few none = refl
  all_counted (suc n) [] few none = let no : ⊥ = omega (arith, few) in absurd no
  all_counted (suc n) (x ∷ xs) few none =
      sum_by-cons (λ y. cond (p y) 1 0) x (take n xs)
      ∙ begin_here (q x) (p x) (mask_l (map q xs)) (count_by p (take n xs)) n (one x) none (all_counted n xs (omega (arith, few)))

-- What the mask of a vector of bytes says of their run, and of the count of their characters.
use Rattle.std.proofs.Common.{◌≡◌, ℕ, ◌+◌, ◌<◌, ◌≤◌, Bool, not, cond, List, map, length, drop, sym, ap, ◌∙◌, arith, inl, inr, refl}
use Rattle.std.proofs.lemmas.Bool.{cases_lt}
use Rattle.yaml_text.proofs.ManyBytes.VectorRuns.{all_pass}
use Rattle.std.proofs.lemmas.Simd.{chunk-drop, length-chunk, trailing_mask_l, ones-mask_l}
use Rattle.std.proofs.lemmas.List.Sums.{prefix_len-le-length, sum_by-append}
use Rattle.std.specs.List.{prefix_len, count_by}
use Rattle.std.specs.Int.RustNames.{count_ones}
use lib.Lanes.{chunk, mask_l}
use lib.Count.{count_trailing_zeros}

pub stop_within : (p : ℕ → Bool) (d : List ℕ) (i n : ℕ) → i + n ≤ length d → n ≤ 64 → 0 < mask_l (map p (chunk i n d)) → count_trailing_zeros 64 (mask_l (map p (chunk i n d))) ≤ n
stop_within p d i n room short some =
    let c = chunk i n d in
    omega (arith, trailing_mask_l p 64 c (omega (arith, length-chunk i n d room)) some, prefix_len-le-length (λ x. not (p x)) c, length-chunk i n d room)

pub stop_inside : (p : ℕ → Bool) (d : List ℕ) (i n : ℕ) → i + n ≤ length d → n ≤ 64 → 0 < mask_l (map p (chunk i n d)) → count_trailing_zeros 64 (mask_l (map p (chunk i n d))) < n
stop_inside p d i n room short some =
    let c = chunk i n d in
    let q : ℕ → Bool = λ x. not (p x) in
    elim (cases_lt (prefix_len q c) (length c)) [
      | inl l ↦ omega (arith, l, trailing_mask_l p 64 c (omega (arith, length-chunk i n d room)) some, length-chunk i n d room)
      | inr past ↦ let none : mask_l (map p c) ≡ 0 = all_pass p q (λ x. refl) c (omega (arith, prefix_len-le-length q c, past)) in absurd (omega (arith, none, some))
    ]

-- a count goes on by the bits of a mask
pub counted : (p : ℕ → Bool) (d : List ℕ) (i n : ℕ) → count_by p (drop i d) ≡ count_ones (mask_l (map p (chunk i n d))) + count_by p (drop (i + n) d)
counted p d i n =
    ap (count_by p) (chunk-drop i n d) ∙ sum_by-append (λ x. cond (p x) 1 0) (chunk i n d) (drop (i + n) d) ∙ ap (λ k. k + count_by p (drop (i + n) d)) (sym (ones-mask_l p (chunk i n d)))

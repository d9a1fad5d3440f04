-- A table that has two digits for each of the first numbers has those of a number at twice that number.
use Rattle.std.proofs.Common.{◌≡◌, ℕ, zero, suc, ◌+◌, ◌*◌, ◌<◌, List, [], ◌∷◌, get_or, flat_map, ap, ◌∙◌, arith}
use Rattle.std.specs.List.{range_with_len}

module _ (f g : ℕ → ℕ) where
  abbrev pub table : ℕ → ℕ → List ℕ
  table a n = flat_map (λ (k : ℕ). f k ∷ g k ∷ []) (range_with_len a n)

  first_from : (a n i : ℕ) → i < n → get_or (table a n) (2 * i) 0 ≡ f (a + i)
  first_from a zero i l = absurd (omega (arith, l))
  first_from a (suc n) zero l = let same : a ≡ a + 0 = omega arith in ap f same
  first_from a (suc n) (suc i) l =
      let place : 2 * suc i ≡ suc (suc (2 * i)) = omega arith in
      let same : a + 1 + i ≡ a + suc i = omega arith in
      ap (λ (j : ℕ). get_or (table a (suc n)) j 0) place ∙ first_from (a + 1) n i (omega (arith, l)) ∙ ap f same

  second_from : (a n i : ℕ) → i < n → get_or (table a n) (2 * i + 1) 0 ≡ g (a + i)
  second_from a zero i l = absurd (omega (arith, l))
  second_from a (suc n) zero l = let same : a ≡ a + 0 = omega arith in ap g same
  second_from a (suc n) (suc i) l =
      let place : 2 * suc i + 1 ≡ suc (suc (2 * i + 1)) = omega arith in
      let same : a + 1 + i ≡ a + suc i = omega arith in
      ap (λ (j : ℕ). get_or (table a (suc n)) j 0) place ∙ second_from (a + 1) n i (omega (arith, l)) ∙ ap g same

  -- the first digit of a number
  pub first_at : (n i : ℕ) (t : List ℕ) → t ≡ table 0 n → i < n → get_or t (2 * i) 0 ≡ f i
  first_at n i t is l =
      let same : 0 + i ≡ i = omega arith in
      ap (λ (z : List ℕ). get_or z (2 * i) 0) is ∙ first_from 0 n i l ∙ ap f same

  -- and its second digit
  pub second_at : (n i : ℕ) (t : List ℕ) → t ≡ table 0 n → i < n → get_or t (2 * i + 1) 0 ≡ g i
  second_at n i t is l =
      let same : 0 + i ≡ i = omega arith in
      ap (λ (z : List ℕ). get_or z (2 * i + 1) 0) is ∙ second_from 0 n i l ∙ ap g same

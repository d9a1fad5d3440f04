-- Tests of sixteen bytes at a time for characters of one and two bytes say what they have to of each byte.
use Rattle.std.proofs.Common.{◌≡◌, ℕ, ◌+◌, ◌-◌, ◌%◌, ◌<◌, Bool, true, false, not, ◌&&◌, ◌||◌, cond, eqb, ltb, leb, List, get_or, drop, refl, sym, ap, ap₂, ◌∙◌, arith, max, inl, inr}
use Rattle.std.proofs.lemmas.Bool.{cases_lt, and_parts}
use Rattle.std.proofs.lemmas.Bool.Decides.{nat_tests}
use Rattle.std.proofs.lemmas.List.{get_or-drop}
use Rattle.yaml_text.specs.Utf8.{continues}
use Rattle.yaml_text.specs.inside.Windows.{is_bounded, is_paired, is_narrow}
use Rattle.yaml_text.proofs.ManyBytes.VectorLanes.{upto_sound, same, same_is}

-- ---- a byte before another

-- subtraction that wraps
abbrev pub minus : ℕ → ℕ → ℕ
minus a b = (a + (256 - b)) % 256

-- how far a byte is below 0xC3, up to 4
abbrev pub below : ℕ → ℕ
below x =
    let gap = minus (cond (ltb 195 x) x 195) x in
    cond (ltb gap 4) gap 4

lead : (x : ℕ) → x < 256 → eqb (below x) 0 ≡ leb 195 x
lead x lt = same_is _ _ (upto_sound (λ x. same (eqb (below x) 0) (leb 195 x)) 256 tt x lt)

no_lead : (x : ℕ) → x < 256 → eqb (below x) 4 ≡ ltb x 192
no_lead x lt = same_is _ _ (upto_sound (λ x. same (eqb (below x) 4) (ltb x 192)) 256 tt x lt)

paired_lane : (x : ℕ) (n c : Bool) → x < 256 → (eqb (below x) (cond c 0 4) && n) ≡ (cond c (leb 195 x) (ltb x 192) && n)
paired_lane x n true lt = ap (λ b. b && n) (lead x lt)
paired_lane x n false lt = ap (λ b. b && n) (no_lead x lt)

pub paired_at : (x y : ℕ) → x < 256 → (eqb (below x) (cond (leb 128 y && leb y 191) 0 4) && not (eqb x 127)) ≡ is_paired x y
paired_at x y lt = paired_lane x (not (eqb x 127)) (continues y) lt

-- ---- four bytes at once

pub larger : (a b : ℕ) → cond (ltb a b) b a ≡ max a b
larger a b = grind (arith, nat_tests)

most_below : (a b n : ℕ) → ltb (max a b) n ≡ (ltb a n && ltb b n)
most_below a b n = grind (arith, nat_tests)

lesser_from : (a b n : ℕ) → leb n (cond (ltb a b) a b) ≡ (leb n a && leb n b)
lesser_from a b n = grind (arith, nat_tests)

lifted_from : (a : ℕ) → leb 32 (cond (eqb a 10) 255 a) ≡ (leb 32 a || eqb a 10)
lifted_from a = grind (arith, nat_tests)

by_turns : (a b p q : Bool) → ((a && b) && (p && q)) ≡ ((a && p) && (b && q))
by_turns true true p q = refl
by_turns true false true q = refl
by_turns true false false q = refl
by_turns false b p q = refl

abbrev pub lesser : ℕ → ℕ → ℕ
lesser a b = cond (ltb a b) a b

abbrev pub lift : ℕ → ℕ
lift a = cond (eqb a 10) 255 a

least_two : (a b : ℕ) → leb 32 (lesser (lift a) (lift b)) ≡ ((leb 32 a || eqb a 10) && (leb 32 b || eqb b 10))
least_two a b = lesser_from (lift a) (lift b) 32 ∙ ap₂ (λ x y. x && y) (lifted_from a) (lifted_from b)

bounded_two : (a b : ℕ) → (ltb (max a b) 224 && leb 32 (lesser (lift a) (lift b))) ≡ (is_bounded a && is_bounded b)
bounded_two a b = ap₂ (λ x y. x && y) (most_below a b 224) (least_two a b) ∙ by_turns (ltb a 224) (ltb b 224) (leb 32 a || eqb a 10) (leb 32 b || eqb b 10)

pub bounded_four : (a b c d : ℕ) → (ltb (max (max a b) (max c d)) 224 && leb 32 (lesser (lesser (lift a) (lift b)) (lesser (lift c) (lift d)))) ≡ ((is_bounded a && is_bounded b) && (is_bounded c && is_bounded d))
bounded_four a b c d =
    ap₂ (λ x y. x && y) (most_below (max a b) (max c d) 224) (lesser_from (lesser (lift a) (lift b)) (lesser (lift c) (lift d)) 32)
    ∙ by_turns (ltb (max a b) 224) (ltb (max c d) 224) (leb 32 (lesser (lift a) (lift b))) (leb 32 (lesser (lift c) (lift d)))
    ∙ ap₂ (λ x y. x && y) (bounded_two a b) (bounded_two c d)

-- ---- sixteen windows of four places each

both_true : (a b : Bool) → a ≡ true → b ≡ true → (a && b) ≡ true
both_true a b p q = ap₂ (λ x y. x && y) p q

narrow_at : (xs : List ℕ) (i j : ℕ) → is_bounded (get_or (drop i xs) j 0) ≡ true → is_paired (get_or (drop i xs) j 0) (get_or (drop i xs) (j + 1) 0) ≡ true → is_narrow (drop (i + j) xs) ≡ true
narrow_at xs i j bound pair =
    let here : i + j + 0 ≡ i + j = omega arith in
    let after : i + j + 1 ≡ i + (j + 1) = omega arith in
    let a : get_or (drop (i + j) xs) 0 0 ≡ get_or (drop i xs) j 0 = get_or-drop (i + j) xs 0 0 ∙ ap (λ n. get_or xs n 0) here ∙ sym (get_or-drop i xs j 0) in
    let b : get_or (drop (i + j) xs) 1 0 ≡ get_or (drop i xs) (j + 1) 0 = get_or-drop (i + j) xs 1 0 ∙ ap (λ n. get_or xs n 0) after ∙ sym (get_or-drop i xs (j + 1) 0) in
    both_true _ _ (ap is_bounded a ∙ bound) (ap₂ is_paired a b ∙ pair)

-- what is tested of a window and of those 16, 32 and 48 places on
abbrev pub are_four_narrow : List ℕ → Bool
are_four_narrow t =
    ((is_bounded (get_or t 0 0) && is_bounded (get_or t 16 0)) && (is_bounded (get_or t 32 0) && is_bounded (get_or t 48 0)))
    && ((is_paired (get_or t 0 0) (get_or t 1 0) && is_paired (get_or t 16 0) (get_or t 17 0)) && (is_paired (get_or t 32 0) (get_or t 33 0) && is_paired (get_or t 48 0) (get_or t 49 0)))

record Narrow (t : List ℕ) (j : ℕ) : Type 0 where
  bound : is_bounded (get_or t j 0) ≡ true
  pair : is_paired (get_or t j 0) (get_or t (j + 1) 0) ≡ true

record Parts (t : List ℕ) : Type 0 where
  one : Narrow t 0
  two : Narrow t 16
  three : Narrow t 32
  four : Narrow t 48

four_parts : (a b c d p q r s : Bool) → (((a && b) && (c && d)) && ((p && q) && (r && s))) ≡ true → (((a ≡ true) × (p ≡ true)) × ((b ≡ true) × (q ≡ true))) × (((c ≡ true) × (r ≡ true)) × ((d ≡ true) × (s ≡ true)))
four_parts a b c d p q r s h =
    let all = and_parts ((a && b) && (c && d)) ((p && q) && (r && s)) h in
    let bounds = and_parts (a && b) (c && d) all.0 in
    let pairs = and_parts (p && q) (r && s) all.1 in
    let front = and_parts a b bounds.0 in
    let after = and_parts c d bounds.1 in
    let front-pairs = and_parts p q pairs.0 in
    let after-pairs = and_parts r s pairs.1 in
    (((front.0, front-pairs.0), (front.1, front-pairs.1)), ((after.0, after-pairs.0), (after.1, after-pairs.1)))

parts : (t : List ℕ) → are_four_narrow t ≡ true → Parts t
parts t h =
    let bound = λ (j : ℕ). is_bounded (get_or t j 0) in
    let pair = λ (j : ℕ). is_paired (get_or t j 0) (get_or t (j + 1) 0) in
    let x = four_parts (bound 0) (bound 16) (bound 32) (bound 48) (pair 0) (pair 16) (pair 32) (pair 48) h in
    record {
      one = record { bound = x.0.0.0; pair = x.0.0.1 };
      two = record { bound = x.0.1.0; pair = x.0.1.1 };
      three = record { bound = x.1.0.0; pair = x.1.0.1 };
      four = record { bound = x.1.1.0; pair = x.1.1.1 };
    }

moved : (xs : List ℕ) (k i j : ℕ) → i + j ≡ k → Narrow (drop i xs) j → is_narrow (drop k xs) ≡ true
moved xs k i j e n = ap (λ m. is_narrow (drop m xs)) (sym e) ∙ narrow_at xs i j n.bound n.pair

pub four_narrow : (xs : List ℕ) → ((i : ℕ) → i < 16 → are_four_narrow (drop i xs) ≡ true) → (k : ℕ) → k < 64 → is_narrow (drop k xs) ≡ true
four_narrow xs all k lt =
    let of : (i : ℕ) → i < 16 → Parts (drop i xs) = λ i less. parts (drop i xs) (all i less) in
    elim (cases_lt k 16) [
      | inl l ↦ let p = of k l in moved xs k k 0 (omega arith) p.one
      | inr m ↦ elim (cases_lt k 32) [
        | inl l ↦ let p = of (k - 16) (omega arith) in moved xs k (k - 16) 16 (omega arith) p.two
        | inr n ↦ elim (cases_lt k 48) [
          | inl l ↦ let p = of (k - 32) (omega arith) in moved xs k (k - 32) 32 (omega arith) p.three
          | inr o ↦ let p = of (k - 48) (omega arith) in moved xs k (k - 48) 48 (omega arith) p.four
        ]
      ]
    ]

-- Four vectors that are put together lane by lane make cells of four bytes.
use Rattle.std.proofs.Common.{◌≡◌, ℕ, suc, ◌+◌, ◌*◌, ◌-◌, ◌<◌, ◌≤◌, inl, inr, eqb, List, [], ◌∷◌, ◌++◌, length, get_or, take, drop, map, refl, ap, ◌∙◌, arith, eqb→eq}
use Rattle.std.proofs.lemmas.Bool.{cases_lt}
use Rattle.std.proofs.lemmas.List.{get_or_append_left, get_or-append_right, get_or-map}
use Rattle.std.proofs.Math.Seq.{drop-cons}
use Rattle.yaml_text.proofs.ManyBytes.VectorLanes.{upto_sound}

-- ---- the lanes of two vectors by turns

abbrev pub turns : List ℕ
turns = 0 ∷ 16 ∷ 1 ∷ 17 ∷ 2 ∷ 18 ∷ 3 ∷ 19 ∷ 4 ∷ 20 ∷ 5 ∷ 21 ∷ 6 ∷ 22 ∷ 7 ∷ 23 ∷ []

abbrev pub later_turns : List ℕ
later_turns = 8 ∷ 24 ∷ 9 ∷ 25 ∷ 10 ∷ 26 ∷ 11 ∷ 27 ∷ 12 ∷ 28 ∷ 13 ∷ 29 ∷ 14 ∷ 30 ∷ 15 ∷ 31 ∷ []

abbrev pub picked : List ℕ → List ℕ → List ℕ → List ℕ
picked places x y = map (λ j. get_or (x ++ y) j 0) places

-- Eight lanes of x and of y, from a lane on.
pub record ByTurns (from : ℕ) (x y v : List ℕ) : Type 0 where
  pub long : length v ≡ 16
  pub even : (k : ℕ) → k < 8 → get_or v (2 * k) 0 ≡ get_or x (from + k) 0
  pub odd : (k : ℕ) → k < 8 → get_or v (2 * k + 1) 0 ≡ get_or y (from + k) 0

pub right_at : (x y : List ℕ) (k : ℕ) → length x ≡ 16 → get_or (x ++ y) (16 + k) 0 ≡ get_or y k 0
right_at x y k long = let e : 16 + k - 16 ≡ k = omega arith in get_or-append_right x y 16 (16 + k) 0 long (omega arith) ∙ ap (λ i. get_or y i 0) e

pub by_turns : (x y : List ℕ) → length x ≡ 16 → ByTurns 0 x y (picked turns x y)
by_turns x y long = record {
  long = refl;
  even = λ k lt.
      let place : get_or turns (2 * k) 0 ≡ 0 + k = eqb→eq _ _ (upto_sound (λ i. eqb (get_or turns (2 * i) 0) (0 + i)) 8 tt k lt) in
      get_or-map (λ j. get_or (x ++ y) j 0) turns (2 * k) 0 0 (omega arith) ∙ ap (λ j. get_or (x ++ y) j 0) place ∙ get_or_append_left x y 0 (0 + k) (omega arith);
  odd = λ k lt.
      let place : get_or turns (2 * k + 1) 0 ≡ 16 + (0 + k) = eqb→eq _ _ (upto_sound (λ i. eqb (get_or turns (2 * i + 1) 0) (16 + (0 + i))) 8 tt k lt) in
      get_or-map (λ j. get_or (x ++ y) j 0) turns (2 * k + 1) 0 0 (omega arith) ∙ ap (λ j. get_or (x ++ y) j 0) place ∙ right_at x y (0 + k) long;
}

pub by_later_turns : (x y : List ℕ) → length x ≡ 16 → ByTurns 8 x y (picked later_turns x y)
by_later_turns x y long = record {
  long = refl;
  even = λ k lt.
      let place : get_or later_turns (2 * k) 0 ≡ 8 + k = eqb→eq _ _ (upto_sound (λ i. eqb (get_or later_turns (2 * i) 0) (8 + i)) 8 tt k lt) in
      get_or-map (λ j. get_or (x ++ y) j 0) later_turns (2 * k) 0 0 (omega arith) ∙ ap (λ j. get_or (x ++ y) j 0) place ∙ get_or_append_left x y 0 (8 + k) (omega arith);
  odd = λ k lt.
      let place : get_or later_turns (2 * k + 1) 0 ≡ 16 + (8 + k) = eqb→eq _ _ (upto_sound (λ i. eqb (get_or later_turns (2 * i + 1) 0) (16 + (8 + i))) 8 tt k lt) in
      get_or-map (λ j. get_or (x ++ y) j 0) later_turns (2 * k + 1) 0 0 (omega arith) ∙ ap (λ j. get_or (x ++ y) j 0) place ∙ right_at x y (8 + k) long;
}

-- ---- four cells in a vector

-- The four bytes from a place on are lane k of the four vectors.
pub record HasCell (a b c d l : List ℕ) (place k : ℕ) : Type 0 where
  pub first : get_or l place 0 ≡ get_or a k 0
  pub second : get_or l (place + 1) 0 ≡ get_or b k 0
  pub third : get_or l (place + 2) 0 ≡ get_or c k 0
  pub fourth : get_or l (place + 3) 0 ≡ get_or d k 0

abbrev pub HasFour : List ℕ → List ℕ → List ℕ → List ℕ → List ℕ → ℕ → Type 0
HasFour a b c d v from = (k : ℕ) → k < 4 → HasCell a b c d v (4 * k) (from + k)

-- p and q are 0 or 8: which half of the lanes is taken, last and first.
pub four_cells : (p q s : ℕ) (a b c d even odd v : List ℕ) → p ≡ 2 * s → s ≤ 4 → ByTurns p even odd v → ByTurns q a c even → ByTurns q b d odd → HasFour a b c d v (q + s)
four_cells p q s a b c d even odd v is few w e o = λ k lt.
    let i = s + k in
    let place : q + i ≡ q + s + k = omega arith in
    let at0 : 4 * k ≡ 2 * (2 * k) = omega arith in
    let at1 : 4 * k + 1 ≡ 2 * (2 * k) + 1 = omega arith in
    let at2 : 4 * k + 2 ≡ 2 * (2 * k + 1) = omega arith in
    let at3 : 4 * k + 3 ≡ 2 * (2 * k + 1) + 1 = omega arith in
    let m0 : p + 2 * k ≡ 2 * i = omega arith in
    let m1 : p + (2 * k + 1) ≡ 2 * i + 1 = omega arith in
    record {
      first = ap (λ j. get_or v j 0) at0 ∙ w.even (2 * k) (omega arith) ∙ ap (λ j. get_or even j 0) m0 ∙ e.even i (omega arith) ∙ ap (λ j. get_or a j 0) place;
      second = ap (λ j. get_or v j 0) at1 ∙ w.odd (2 * k) (omega arith) ∙ ap (λ j. get_or odd j 0) m0 ∙ o.even i (omega arith) ∙ ap (λ j. get_or b j 0) place;
      third = ap (λ j. get_or v j 0) at2 ∙ w.even (2 * k + 1) (omega arith) ∙ ap (λ j. get_or even j 0) m1 ∙ e.odd i (omega arith) ∙ ap (λ j. get_or c j 0) place;
      fourth = ap (λ j. get_or v j 0) at3 ∙ w.odd (2 * k + 1) (omega arith) ∙ ap (λ j. get_or odd j 0) m1 ∙ o.odd i (omega arith) ∙ ap (λ j. get_or d j 0) place;
    }

-- ---- cells that are written one vector after the other

abbrev pub HasCells : List ℕ → List ℕ → List ℕ → List ℕ → List ℕ → ℕ → Type 0
HasCells a b c d l n = (k : ℕ) → k < n → HasCell a b c d l (4 * k) k

pub more_cells : (a b c d l m v : List ℕ) (from at : ℕ) → at ≡ 4 * from → HasCells a b c d l from → HasFour a b c d v from
    → ((k : ℕ) → k < 16 → get_or m (at + k) 0 ≡ get_or v k 0) → ((k : ℕ) → k < at → get_or m k 0 ≡ get_or l k 0) → HasCells a b c d m (from + 4)
more_cells a b c d l m v from at is old new laid before = λ k lt.
    elim (cases_lt k from) [
      | inl x ↦
          let s = old k x in
          record {
            first = before (4 * k) (omega arith) ∙ s.first;
            second = before (4 * k + 1) (omega arith) ∙ s.second;
            third = before (4 * k + 2) (omega arith) ∙ s.third;
            fourth = before (4 * k + 3) (omega arith) ∙ s.fourth;
          }
      | inr x ↦
          let j = k - from in
          let s = new j (omega arith) in
          let e : from + j ≡ k = omega arith in
          let e0 : 4 * k ≡ at + 4 * j = omega arith in
          let e1 : 4 * k + 1 ≡ at + (4 * j + 1) = omega arith in
          let e2 : 4 * k + 2 ≡ at + (4 * j + 2) = omega arith in
          let e3 : 4 * k + 3 ≡ at + (4 * j + 3) = omega arith in
          record {
            first = ap (λ i. get_or m i 0) e0 ∙ laid (4 * j) (omega arith) ∙ s.first ∙ ap (λ i. get_or a i 0) e;
            second = ap (λ i. get_or m i 0) e1 ∙ laid (4 * j + 1) (omega arith) ∙ s.second ∙ ap (λ i. get_or b i 0) e;
            third = ap (λ i. get_or m i 0) e2 ∙ laid (4 * j + 2) (omega arith) ∙ s.third ∙ ap (λ i. get_or c i 0) e;
            fourth = ap (λ i. get_or m i 0) e3 ∙ laid (4 * j + 3) (omega arith) ∙ s.fourth ∙ ap (λ i. get_or d i 0) e;
          }
    ]

four_at : (l : List ℕ) (i : ℕ) → i + 4 ≤ length l → take 4 (drop i l) ≡ get_or l i 0 ∷ get_or l (i + 1) 0 ∷ get_or l (i + 2) 0 ∷ get_or l (i + 3) 0 ∷ []
four_at l i le =
    let e : suc i ≡ i + 1 = omega arith in
    let f : suc (i + 1) ≡ i + 2 = omega arith in
    let g : suc (i + 2) ≡ i + 3 = omega arith in
    let one = drop-cons l i 0 (omega arith) ∙ ap (λ j. get_or l i 0 ∷ drop j l) e in
    let two = drop-cons l (i + 1) 0 (omega arith) ∙ ap (λ j. get_or l (i + 1) 0 ∷ drop j l) f in
    let three = drop-cons l (i + 2) 0 (omega arith) ∙ ap (λ j. get_or l (i + 2) 0 ∷ drop j l) g in
    let four = drop-cons l (i + 3) 0 (omega arith) in
    ap (take 4) one ∙ ap (λ (t : List ℕ). get_or l i 0 ∷ take 3 t) two ∙ ap (λ (t : List ℕ). get_or l i 0 ∷ get_or l (i + 1) 0 ∷ take 2 t) three
    ∙ ap (λ (t : List ℕ). get_or l i 0 ∷ get_or l (i + 1) 0 ∷ get_or l (i + 2) 0 ∷ take 1 t) four

pub cell_taken : (a b c d l : List ℕ) (k : ℕ) → 4 * k + 4 ≤ length l → HasCell a b c d l (4 * k) k → take 4 (drop (4 * k) l) ≡ get_or a k 0 ∷ get_or b k 0 ∷ get_or c k 0 ∷ get_or d k 0 ∷ []
cell_taken a b c d l k room s = let e = s.first in let f = s.second in let g = s.third in let h = s.fourth in rw (← e, ← f, ← g, ← h) (four_at l (4 * k) room)

-- A room that two lists cover, one after the other, is covered by both at once; it keeps its size.
use Rattle.std.proofs.Common.{◌≡◌, ◌≤◌, ◌<◌, ◌^◌, ◌+◌, ◌-◌, ◌++◌, ◌∷◌, [], ℕ, suc, zero, List}
use Rattle.std.proofs.Common.{length, take, drop, slice_set, min, length-drop, length-append}
use Rattle.std.proofs.Common.{arith, refl, sym, ap, ◌∙◌, inl, inr}
use Rattle.std.proofs.Math.Nat.{zero-add, suc-add}
use Rattle.std.proofs.lemmas.Bool.{cases_lt}
use Rattle.yaml_c.specs.Room.{covered, covered_from}
use Rattle.yaml_c.specs.Record.{held}

-- an empty list changes nothing
pub covered_by_none : {A : Type 0} → (room : List A) → covered [] room ≡ room
covered_by_none [] = refl
covered_by_none (y ∷ room) = refl

-- an empty room stays empty
pub covered_nowhere : {A : Type 0} → (xs : List A) → covered xs [] ≡ []
covered_nowhere [] = refl
covered_nowhere (x ∷ xs) = refl

pub covered_from_nowhere : {A : Type 0} → (at : ℕ) (xs : List A) → covered_from at xs [] ≡ []
covered_from_nowhere zero xs = covered_nowhere xs
covered_from_nowhere (suc at) xs = covered_nowhere xs

pub covered_from_by_none : {A : Type 0} → (at : ℕ) (room : List A) → covered_from at [] room ≡ room
covered_from_by_none zero room = covered_by_none room
covered_from_by_none (suc at) [] = refl
covered_from_by_none (suc at) (y ∷ room) = ap (λ z. y ∷ z) (covered_from_by_none at room)

-- one list after another, from the beginning
more_covered : {A : Type 0} → (xs ys room : List A)
    → covered_from (length xs) ys (covered xs room) ≡ covered (xs ++ ys) room
more_covered [] ys room = ap (λ z. covered ys z) (covered_by_none room)
more_covered (x ∷ xs) ys [] = covered_nowhere ys
more_covered (x ∷ xs) ys (y ∷ room) = ap (λ z. x ∷ z) (more_covered xs ys room)

-- the same, from any place on
pub more_covered_from : {A : Type 0} → (at : ℕ) (xs ys room : List A)
    → covered_from (at + length xs) ys (covered_from at xs room) ≡ covered_from at (xs ++ ys) room
more_covered_from zero xs ys room = rw (zero-add (length xs)) (more_covered xs ys room)
more_covered_from (suc at) xs ys [] =
    rw (
      covered_from_nowhere (suc at) xs,
      covered_from_nowhere (suc at + length xs) ys,
      covered_from_nowhere (suc at) (xs ++ ys),
    ) refl
more_covered_from (suc at) xs ys (y ∷ room) =
    rw (suc-add at (length xs)) (ap (λ z. y ∷ z) (more_covered_from at xs ys room))

-- a room keeps its size
pub length-covered : {A : Type 0} → (xs room : List A) → length (covered xs room) ≡ length room
length-covered xs [] = ap length (covered_nowhere xs)
length-covered [] (y ∷ room) = refl
length-covered (x ∷ xs) (y ∷ room) = ap suc (length-covered xs room)

pub length-covered_from : {A : Type 0} → (at : ℕ) (xs room : List A) → length (covered_from at xs room) ≡ length room
length-covered_from zero xs room = length-covered xs room
length-covered_from (suc at) xs [] = ap length (covered_from_nowhere (suc at) xs)
length-covered_from (suc at) xs (y ∷ room) = ap suc (length-covered_from at xs room)

-- if the place is past the room, nothing is covered
pub covered_past : {A : Type 0} → (at : ℕ) (xs room : List A) → length room ≤ at → covered_from at xs room ≡ room
covered_past at xs [] h = covered_from_nowhere at xs
covered_past zero xs (y ∷ room) h = absurd (omega arith)
covered_past (suc at) xs (y ∷ room) h = ap (λ z. y ∷ z) (covered_past at xs room (omega arith))

-- no room reaches the greatest number of 64 bits
pub covered_held : {A : Type 0} → (at : ℕ) (xs room : List A) → length room < 2 ^ 63
    → covered_from (held at) xs room ≡ covered_from at xs room
covered_held at xs room h = elim (cases_lt at (2 ^ 64)) [
  | inl low ↦ let same : held at ≡ at = omega arith in ap (λ n. covered_from n xs room) same
  | inr high ↦ let past : length room ≤ held at = omega arith in covered_past (held at) xs room past
      ∙ sym (covered_past at xs room (omega arith))
]

-- a record that is written in its place
pub covered_by_one : {A : Type 0} → (at : ℕ) (x : A) (room : List A) → at < length room
    → slice_set room at x ≡ covered_from at (x ∷ []) room
covered_by_one at x [] h = absurd (omega arith)
covered_by_one zero x (y ∷ room) h = ap (λ z. x ∷ z) (sym (covered_by_none room))
covered_by_one (suc at) x (y ∷ room) h = ap (λ z. y ∷ z) (covered_by_one at x room (omega arith))

-- as much of a list as there is room for
covered_by_part : {A : Type 0} → (n : ℕ) (xs room : List A) → n ≤ length room → n ≤ length xs
    → (n < length room → length xs ≤ n) → take n xs ++ drop n room ≡ covered xs room
covered_by_part zero [] room h k full = sym (covered_by_none room)
covered_by_part zero (x ∷ xs) [] h k full = sym (covered_nowhere (x ∷ xs))
covered_by_part zero (x ∷ xs) (y ∷ room) h k full = absurd (omega arith)
covered_by_part (suc n) [] room h k full = absurd (omega arith)
covered_by_part (suc n) (x ∷ xs) [] h k full = absurd (omega arith)
covered_by_part (suc n) (x ∷ xs) (y ∷ room) h k full =
    ap (λ z. x ∷ z) (covered_by_part n xs room (omega arith) (omega arith) (λ low. omega (arith, full)))

-- bytes that are copied into their place
pub covered_by_copy : {A : Type 0} → (at n : ℕ) (xs room : List A) → at < length room
    → n ≡ min (length room - at) (length xs)
    → take at room ++ (take n xs ++ drop n (drop at room)) ≡ covered_from at xs room
covered_by_copy at n xs room h e =
    let size : length (drop at room) ≡ length room - at = length-drop at room in
    ap (λ z. take at room ++ z) (covered_by_part n xs (drop at room) (omega arith) (omega arith) (λ low. omega arith))

-- two texts, one put after the other
pub both_covered : {A : Type 0} → (at second_at : ℕ) (f s first second old mid new : List A) → f ≡ first
    → s ≡ second → length old < 2 ^ 63 → second_at ≡ held (at + length f)
    → mid ≡ covered_from at f old → new ≡ covered_from second_at s mid → new ≡ covered_from at (first ++ second) old
both_covered at second_at f s first second old mid new ef es low eb em en =
    let same : length mid ≡ length old = ap length em ∙ length-covered_from at f old in
    let room : length mid < 2 ^ 63 = omega arith in
    en ∙ ap (λ n. covered_from n s mid) eb ∙ covered_held (at + length f) s mid room
    ∙ ap (λ z. covered_from (at + length f) s z) em ∙ more_covered_from at f s old
    ∙ ap (λ z. covered_from at (z ++ s) old) ef ∙ ap (λ z. covered_from at (first ++ z) old) es

-- the end of both texts is as far on as both are long
pub both_counted : {A : Type 0} → (at second_at end : ℕ) (f s first second : List A) → f ≡ first → s ≡ second
    → second_at ≡ held (at + length f) → end ≡ held (second_at + length s)
    → end ≡ held (at + length (first ++ second))
both_counted at second_at end f s first second ef es eb ee =
    let lf : length f ≡ length first = ap length ef in
    let ls : length s ≡ length second = ap length es in
    let sum : length (first ++ second) ≡ length first + length second = length-append first second in
    omega arith

-- a list that there is room for
pub covered_whole : {A : Type 0} → (xs room : List A) → length xs ≤ length room
    → covered xs room ≡ xs ++ drop (length xs) room
covered_whole [] room h = covered_by_none room
covered_whole (x ∷ xs) [] h = absurd (omega arith)
covered_whole (x ∷ xs) (y ∷ room) h = ap (λ z. x ∷ z) (covered_whole xs room (omega arith))

-- one that is at least as long as the room
pub covered_short : {A : Type 0} → (xs room : List A) → length room ≤ length xs
    → covered xs room ≡ take (length room) xs
covered_short xs [] h = covered_nowhere xs
covered_short [] (y ∷ room) h = absurd (omega arith)
covered_short (x ∷ xs) (y ∷ room) h = ap (λ z. x ∷ z) (covered_short xs room (omega arith))

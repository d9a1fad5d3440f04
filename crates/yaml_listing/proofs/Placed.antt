-- A text that is written at a place follows what stands before the place.
use Rattle.std.proofs.Common.{◌≡◌, ℕ, ◌+◌, ◌-◌, ◌≤◌, List, [], ◌∷◌, ◌++◌, length, take, drop}
use Rattle.std.proofs.Common.{sym, ap, ◌∙◌, append_assoc, arith, length-append}
use Rattle.std.proofs.Math.Seq.{take-add, take-append-add}
use Rattle.std.proofs.lemmas.List.{take-append-le, take-append-drop, length-take-le, take_all}

-- the beginning of a row, the rest of which stands after it
pub row_placed : (at len : ℕ) (row b rest : List ℕ) → len ≤ length row → at ≤ length b
    → take (at + len) (take at b ++ (row ++ rest)) ≡ take at b ++ take len row
row_placed at len row b rest short within =
    let front = take at b in
    let long : length front ≡ at = length-take-le at b within in
    let place : at + len ≡ length front + len = omega (arith, long) in
    ap (λ (n : ℕ). take n (front ++ (row ++ rest))) place
    ∙ take-append-add front (row ++ rest) len
    ∙ ap (λ (z : List ℕ). front ++ z) (take-append-le len row rest short)

-- one text after another
pub then_placed : (at n m : ℕ) (a b c x y : List ℕ) → take n b ≡ take at a ++ x → take m c ≡ take n b ++ y
    → take m c ≡ take at a ++ (x ++ y)
then_placed at n m a b c x y first second =
    second ∙ ap (λ (z : List ℕ). z ++ y) first ∙ append_assoc (take at a) x y

-- two bytes
pub two_placed : (at x y : ℕ) (b c rest : List ℕ) → take (at + 2 - 2) c ≡ take (at + 2 - 2) b
    → drop (at + 2 - 2) c ≡ x ∷ y ∷ rest → take (at + 2) c ≡ take at b ++ (x ∷ y ∷ [])
two_placed at x y b c rest front written =
    let same : at + 2 - 2 ≡ at = omega arith in
    let before : take at c ≡ take at b = sym (ap (λ (n : ℕ). take n c) same) ∙ front ∙ ap (λ (n : ℕ). take n b) same in
    let after : drop at c ≡ x ∷ y ∷ rest = sym (ap (λ (n : ℕ). drop n c) same) ∙ written in
    take-add at 2 c ∙ ap (λ (z : List ℕ). z ++ take 2 (drop at c)) before
    ∙ ap (λ (z : List ℕ). take at b ++ take 2 z) after

-- what stands before an earlier place
take-take_lower : (n m : ℕ) (xs : List ℕ) → n ≤ m → n ≤ length (take m xs) → take n (take m xs) ≡ take n xs
take-take_lower n m xs low within =
    sym (take-append-le n (take m xs) (drop m xs) within)
    ∙ ap (λ (z : List ℕ). take n z) (take-append-drop m xs)

-- if what stands before the end of a text stays, what stands before the text stays
pub front_kept : (at n : ℕ) (old mid new text : List ℕ) → at ≤ length old → at ≤ n
    → take n mid ≡ take at old ++ text → take n new ≡ take n mid → take at new ≡ take at old
front_kept at n old mid new text within low written stays =
    let long : length (take at old) ≡ at = length-take-le at old within in
    let is : take n new ≡ take at old ++ text = stays ∙ written in
    let room : at ≤ length (take n new) = omega (arith, ap length is, length-append (take at old) text, long) in
    sym (take-take_lower at n new low room) ∙ ap (λ (z : List ℕ). take at z) is
    ∙ take-append-le at (take at old) text (omega (arith, long)) ∙ take_all at (take at old) (omega (arith, long))

-- a slice of all bytes is written back to them
pub written_back : (len : ℕ) (text rest : List ℕ) → length text ≡ len → take len (text ++ rest) ≡ text
written_back len text rest whole =
    take-append-le len text rest (omega (arith, whole)) ∙ take_all len text (omega (arith, whole))

-- Digits that are written before a place, the last ones first, are those of the number.
use Rattle.std.proofs.Common.{◌≡◌, ℕ, ◌+◌, ◌-◌, ◌/◌, ◌%◌, ◌^◌, ◌<◌, ◌≤◌, List, [], ◌∷◌, ◌++◌, length, drop, set}
use Rattle.std.proofs.Common.{sym, ap, ◌∙◌, append_assoc, append-nil, arith, length-append, length-drop, length-set}
use Rattle.std.specs.Fmt.{decimal}
use Rattle.std.proofs.lemmas.List.{drop-set, drop-drop}
use Rattle.yaml_listing.specs.inside.Put.{pair_text}
use Rattle.std.proofs.lemmas.Fmt.{decimal_step, decimal_digit, length-decimal-le}

-- there is room for the digits that are left
pub digits_room : (left number at end : ℕ) (b before : List ℕ) → number < 2 ^ 64
    → at ≤ end → end ≤ length before → length b ≡ length before
    → decimal left ++ drop at b ≡ decimal number ++ drop end before → end + length (decimal left) ≤ at + 20
digits_room left number at end b before whole within room same written =
    let lengths : length (decimal left) + (length b - at) ≡ length (decimal number) + (length before - end) =
    simp (length-append, length-drop) at (ap length written) in
    omega (arith, length-decimal-le 20 number (omega arith) (omega arith) whole, lengths)

-- a number below 100, of two digits
pub pair_whole : (n : ℕ) → 10 ≤ n → n < 100 → decimal n ≡ (48 + n / 10) ∷ (48 + n % 10) ∷ []
pair_whole n some small =
    decimal_step n some (omega (arith, small))
    ∙ ap (λ (z : List ℕ). z ++ ((48 + n % 10) ∷ [])) (decimal_digit (n / 10) (omega (arith, small)))

-- of the digits of a number below 10, written as two, the last one is its digit
pub digit_whole : (n end : ℕ) (b rest : List ℕ) → n < 10 → 2 ≤ end
    → drop (end - 2) b ≡ (48 + n / 10) ∷ (48 + n % 10) ∷ rest → drop (end - 1) b ≡ decimal n ++ rest
digit_whole n end b rest small low written =
    let next : end - 1 ≡ end - 2 + 1 = omega (arith, low) in
    let ones : 48 + n % 10 ≡ 48 + n = omega (arith, small) in
    ap (λ (k : ℕ). drop k b) next ∙ sym (drop-drop 1 (end - 2) b) ∙ ap (λ (z : List ℕ). drop 1 z) written
    ∙ ap (λ (d : ℕ). d ∷ rest) ones
    ∙ ap (λ (z : List ℕ). z ++ rest) (sym (decimal_digit n small))

-- a byte that is written before a place
pub drop_written : (at y : ℕ) (b : List ℕ) → 1 ≤ at → at ≤ length b
    → drop (at - 1) (set b (at - 1) y) ≡ y ∷ drop at b
drop_written at y b low high =
    let next : at - 1 + 1 ≡ at = omega arith in
    drop-set b (at - 1) y (omega arith) ∙ ap (λ (n : ℕ). y ∷ drop n b) next

-- two bytes that are written before a place
pub drop_two_written : (at x y : ℕ) (b : List ℕ) → 2 ≤ at → at ≤ length b
    → drop (at - 2) (set (set b (at - 1) y) (at - 2) x) ≡ x ∷ y ∷ drop at b
drop_two_written at x y b low high =
    let next : at - 2 + 1 ≡ at - 1 = omega arith in
    drop-set (set b (at - 1) y) (at - 2) x (omega (arith, length-set b (at - 1) y))
    ∙ ap (λ (n : ℕ). x ∷ drop n (set b (at - 1) y)) next
    ∙ ap (λ (z : List ℕ). x ∷ z) (drop_written at y b (omega arith) high)

-- if more than two digits are left, the last two of them are written
pub pair_more : (left : ℕ) (rest : List ℕ) → 100 ≤ left → left < 2 ^ 64
    → decimal (left / 100) ++ ((48 + left % 100 / 10) ∷ (48 + left % 100 % 10) ∷ rest) ≡ decimal left ++ rest
pair_more left rest some fits =
    let tens : 48 + left / 10 % 10 ≡ 48 + left % 100 / 10 = omega arith in
    let ones : 48 + left % 10 ≡ 48 + left % 100 % 10 = omega arith in
    let front : left / 10 / 10 ≡ left / 100 = omega arith in
    let first : decimal (left / 10) ≡ decimal (left / 100) ++ ((48 + left % 100 / 10) ∷ []) =
    decimal_step (left / 10) (omega (arith, some)) (omega (arith, fits))
    ∙ ap (λ (n : ℕ). decimal n ++ ((48 + left / 10 % 10) ∷ [])) front
    ∙ ap (λ (d : ℕ). decimal (left / 100) ++ (d ∷ [])) tens in
    let both : decimal left
    ≡ (decimal (left / 100) ++ ((48 + left % 100 / 10) ∷ [])) ++ ((48 + left % 100 % 10) ∷ []) =
    decimal_step left (omega (arith, some)) fits
    ∙ ap (λ (z : List ℕ). z ++ ((48 + left % 10) ∷ [])) first
    ∙ ap (λ (d : ℕ). (decimal (left / 100) ++ ((48 + left % 100 / 10) ∷ [])) ++ (d ∷ [])) ones in
    sym (ap (λ (z : List ℕ). z ++ rest) both
    ∙ append_assoc (decimal (left / 100) ++ ((48 + left % 100 / 10) ∷ [])) ((48 + left % 100 % 10) ∷ []) rest
    ∙ append_assoc (decimal (left / 100)) ((48 + left % 100 / 10) ∷ []) ((48 + left % 100 % 10) ∷ rest))

-- the same of four digits
pub four_more : (left : ℕ) (rest : List ℕ) → 10000 ≤ left → left < 2 ^ 64
    → decimal (left / 10000) ++ ((48 + left % 10000 / 100 / 10) ∷ (48 + left % 10000 / 100 % 10)
    ∷ (48 + left % 10000 % 100 / 10) ∷ (48 + left % 10000 % 100 % 10) ∷ rest) ≡ decimal left ++ rest
four_more left rest some fits =
    let front : left / 10000 ≡ left / 100 / 100 = omega arith in
    let high : left % 10000 / 100 ≡ left / 100 % 100 = omega arith in
    let low : left % 10000 % 100 ≡ left % 100 = omega arith in
    let last : List ℕ = (48 + left % 100 / 10) ∷ (48 + left % 100 % 10) ∷ rest in
    ap (λ (n : ℕ). decimal n ++ ((48 + left % 10000 / 100 / 10) ∷ (48 + left % 10000 / 100 % 10)
    ∷ (48 + left % 10000 % 100 / 10) ∷ (48 + left % 10000 % 100 % 10) ∷ rest)) front
    ∙ ap (λ (n : ℕ). decimal (left / 100 / 100) ++ ((48 + n / 10) ∷ (48 + n % 10)
    ∷ (48 + left % 10000 % 100 / 10) ∷ (48 + left % 10000 % 100 % 10) ∷ rest)) high
    ∙ ap (λ (n : ℕ). decimal (left / 100 / 100) ++ ((48 + left / 100 % 100 / 10) ∷ (48 + left / 100 % 100 % 10)
    ∷ (48 + n / 10) ∷ (48 + n % 10) ∷ rest)) low
    ∙ pair_more (left / 100) last (omega (arith, some)) (omega (arith, fits))
    ∙ pair_more left rest (omega (arith, some)) fits

-- a number of more than two digits has two after those of its hundredth
pub length_more : (n : ℕ) → 100 ≤ n → n < 2 ^ 64 → length (decimal n) ≡ length (decimal (n / 100)) + 2
length_more n some fits =
    let whole : decimal (n / 100) ++ ((48 + n % 100 / 10) ∷ (48 + n % 100 % 10) ∷ []) ≡ decimal n ++ [] =
    pair_more n [] some fits in
    let lengths : length (decimal (n / 100)) + 2 ≡ length (decimal n) + 0 = simp length-append at (ap length whole) in
    omega (arith, lengths)

-- the two last digits of a number of more than two are those of its remainder
pub pair_last : (n : ℕ) → 100 ≤ n → n < 2 ^ 64 → decimal (n / 100) ++ pair_text (n % 100) ≡ decimal n
pair_last n some fits = pair_more n [] some fits ∙ append-nil (decimal n)

-- A word that spells a key limit is read as that limit, and a word that is read as one spells it.
use Rattle.std.proofs.Common.{◌≡◌, ◌≢◌, ℕ, ◌^◌, ◌<◌, ◌≤◌, true, List, get_or, Ok, ap, sym, ◌∙◌, subst, arith}
use Rattle.std.specs.Prelude.{Result, nat_le}
use Rattle.std.specs.Fmt.{decimal}
use Rattle.std.specs.Int.{IsInRange}
use Rattle.std.specs.Str.Parse.{AllDigits, digits_value, ParsesUnsigned}
use Rattle.std.proofs.lemmas.Bool.{and_parts, leb-true}
use Rattle.std.proofs.lemmas.Fmt.{first_decimal, decimal_is_IsNumeral, decimal-digits_value, parse-decimal}
use Rattle.std.proofs.lemmas.Str.Parse.{IsNumeralModel, numerals_by_value, tells_digits, digit_at, parse_plain}
use Rattle.yaml_listing.specs.Args.{is_limit, most_key_limit}

own : IsNumeralModel (AllDigits 10) (digits_value 10)
own = numerals_by_value (AllDigits 10) tells_digits

-- a key limit is from 1 to the greatest
limit_small : (n : ℕ) → is_limit n ≡ true → (1 ≤ n) × (n ≤ most_key_limit)
limit_small n l =
    let p = and_parts (nat_le 1 n) (nat_le n most_key_limit) l in
    (leb-true 1 n p.0, leb-true n most_key_limit p.1)

-- a word that spells a key limit begins with a digit other than 0
pub limit_led : (bs : List ℕ) (n : ℕ) → is_limit n ≡ true → bs ≡ decimal n → IsInRange 49 57 (get_or bs 0 0)
limit_led bs n l e =
    let s = limit_small n l in
    let b : n < 2 ^ 64 = omega (arith, s.1) in
    let f = first_decimal n (omega (arith, s.0)) b in
    let d = (decimal_is_IsNumeral n b).0 in
    let g = digit_at (decimal n) 0 d.1 d.0 in
    subst (λ (x : List ℕ). IsInRange 49 57 (get_or x 0 0)) (sym e) (omega (arith, f), g.1)

-- a word that begins so and is read as a number spells that number
pub limit_parsed : {E : Type 0} (bs : List ℕ) (n : ℕ) (r : Result ℕ E) → IsInRange 49 57 (get_or bs 0 0)
    → ParsesUnsigned {E = E} 32 10 bs r → r ≡ Ok n → bs ≡ decimal n
limit_parsed {E} bs n r l h q =
    let a = l.0 in
    let p : get_or bs 0 0 ≢ 43 = λ e. omega arith in
    let read = subst (λ (x : Result ℕ E). ParsesUnsigned {E = E} 32 10 bs x) q h in
    let o = parse_plain own {E = E} 32 bs (Ok n) read p in
    let b : digits_value 10 bs < 2 ^ 64 = omega (arith, o.0.2) in
    let d = decimal-digits_value own bs o.0.0 o.0.1 (λ e. absurd (omega arith)) b in
    sym d ∙ ap decimal (sym o.1)

-- a word that spells a key limit is read as it
pub limit_read : {E : Type 0} (bs : List ℕ) (n : ℕ) (r : Result ℕ E) → is_limit n ≡ true → bs ≡ decimal n
    → ParsesUnsigned {E = E} 32 10 bs r → r ≡ Ok n
limit_read bs n r l e h =
    let s = limit_small n l in
    parse-decimal 32 n bs r (omega (arith, s.1)) (omega (arith, s.1)) e h

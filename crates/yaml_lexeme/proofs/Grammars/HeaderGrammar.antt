-- The header of a block scalar is a sign and a digit.
use Rattle.std.proofs.Common.{◌≡◌, ℕ, ◌-◌, Bool, true, false, not, ◌==◌, ◌&&◌, inl, inr, if◌then◌else◌, Option, Some, None, is_some, Ok, Err, refl, sym, ap, ◌∙◌, subst, eqb-true}
use Rattle.std.proofs.lemmas.Bool.{cases_Bool, not_from_false}
use Rattle.yaml_text.specs.Classes.{is_digit}
use Rattle.yaml_lexeme.specs.declared.block.chomp_t.TheVariants.{CLIP}
use Rattle.yaml_lexeme.specs.declared.block.header_t.{header_t}
use Rattle.yaml_lexeme.specs.declared.problem.yaml_problem_t.TheVariants.{INDICATOR_ZERO}
use Rattle.yaml_lexeme.specs.Block.{is_sign, sign_of, digit_at, header_of, header_at}
use Rattle.yaml_lexeme.specs.HeaderGrammar.{IndentDigit, HeaderParts, HeaderRefused, HeaderIsParts, HeaderIsRefused}
use Rattle.yaml_lexeme.specs.HeaderGrammar.HeaderParts.{sign_alone, sign_digit, digit_sign, digit_alone, neither}
use Rattle.yaml_lexeme.specs.HeaderGrammar.HeaderRefused.{zero_first, zero_second}
use Rattle.yaml_lexeme.specs.Place.{Place, first, peek, skip}
use Rattle.yaml_lexeme.specs.Reading.{Offence, Found, Read, found, refuse, ◌>>=◌}
use Rattle.yaml_lexeme.proofs.Grammars.ReadingSteps.{taken, left, then_second, first_refused, offence_is}
use Rattle.yaml_lexeme.proofs.Parts.ReadResults.{both}
use Rattle.yaml_lexeme.proofs.Places.PlaceMoves.{skip_skip, first_on}

-- DIGITS

-- what is at a place where a digit may be
data DigitAt (p : Place) : Type 0 where
  none_there : is_digit (first p) ≡ false → digit_at p ≡ found None p → DigitAt p
  zero_there : first p ≡ 0x30 → digit_at p ≡ refuse INDICATOR_ZERO p → DigitAt p
  some_there : IndentDigit (first p) → digit_at p ≡ found (Some (first p - 0x30)) (skip 1 p) → DigitAt p

abbrev unless_zero : Place → Read (Option ℕ)
unless_zero p = if first p == 0x30 then refuse INDICATOR_ZERO p else found (Some (first p - 0x30)) (skip 1 p)

digit_is : (p : Place) → digit_at p ≡ (if not (is_digit (first p)) then found None p else unless_zero p)
unfolding digit_at
digit_is p = refl

no_digit : (p : Place) → is_digit (first p) ≡ false → digit_at p ≡ found None p
no_digit p none = digit_is p ∙ taken (not (is_digit (first p))) (found None p) (unless_zero p) (not_from_false (is_digit (first p)) none)

so : (b : Bool) → b ≡ true → not b ≡ false
so b h = rw h refl

zero_digit : (p : Place) → first p ≡ 0x30 → digit_at p ≡ refuse INDICATOR_ZERO p
zero_digit p e =
    let digit : is_digit (first p) ≡ true = rw e refl in
    let test : (first p == 0x30) ≡ true = rw e refl in
    digit_is p ∙ left (not (is_digit (first p))) (found None p) (unless_zero p) (so (is_digit (first p)) digit) ∙ taken (first p == 0x30) _ _ test

some_digit : (p : Place) → IndentDigit (first p) → digit_at p ≡ found (Some (first p - 0x30)) (skip 1 p)
some_digit p d = digit_is p ∙ left (not (is_digit (first p))) (found None p) (unless_zero p) (so (is_digit (first p)) d.digit) ∙ left (first p == 0x30) _ _ d.some

what_is : (p : Place) → DigitAt p
what_is p = elim (cases_Bool (is_digit (first p))) [
  | inl digit ↦ elim (cases_Bool (first p == 0x30)) [
    | inl is ↦ (let e = eqb-true (first p) 0x30 is in zero_there e (zero_digit p e))
    | inr some ↦ (let d : IndentDigit (first p) = record { digit = digit; some = some } in some_there d (some_digit p d))
  ]
  | inr none ↦ none_there none (no_digit p none)
]

-- HEADERS

abbrev after_sign : Place → Found (Option ℕ) → Read header_t
after_sign p d = found (header_of (sign_of (first p)) d.value) d.end

abbrev after_digit : Found (Option ℕ) → Read header_t
after_digit d = if is_some d.value && is_sign (first d.end) then found (header_of (sign_of (first d.end)) d.value) (skip 1 d.end) else found (header_of CLIP d.value) d.end

abbrev by_sign : Place → Read header_t
by_sign p = digit_at (skip 1 p) >>= after_sign p

abbrev by_digit : Place → Read header_t
by_digit p = digit_at p >>= after_digit

header_is : (p : Place) → header_at p ≡ (if is_sign (first p) then by_sign p else by_digit p)
unfolding header_at
header_is p = refl

signed : (p : Place) → is_sign (first p) ≡ true → header_at p ≡ by_sign p
signed p h = header_is p ∙ taken (is_sign (first p)) (by_sign p) (by_digit p) h

unsigned : (p : Place) → is_sign (first p) ≡ false → header_at p ≡ by_digit p
unsigned p h = header_is p ∙ left (is_sign (first p)) (by_sign p) (by_digit p) h

-- a digit is no sign
digit_unsigned : (c : ℕ) → is_digit c ≡ true → is_sign c ≡ false
digit_unsigned c h = elim (cases_Bool (c == 0x2B)) [
  | inl plus ↦ absurd (let e = eqb-true c 0x2B plus in let never : is_digit 0x2B ≡ true = subst (λ (d : ℕ). is_digit d ≡ true) e h in cc)
  | inr a ↦ elim (cases_Bool (c == 0x2D)) [
    | inl minus ↦ absurd (let e = eqb-true c 0x2D minus in let never : is_digit 0x2D ≡ true = subst (λ (d : ℕ). is_digit d ≡ true) e h in cc)
    | inr b ↦ rw (a, b) refl
  ]
]

-- the header that is made of a value and a place
abbrev made : header_t → Place → Found header_t
made h q = record { value = h; end = q }

value_is : (f : Found header_t) (h : header_t) (q : Place) → found h q ≡ Ok f → f ≡ made h q
value_is f h q e = cc

-- what is read at p
data HeaderAt (p : Place) : Type 0 where
  reads : (h : header_t) (q : Place) → header_at p ≡ found h q → HeaderParts p (made h q) → HeaderAt p
  refuses : (q : Place) → header_at p ≡ refuse INDICATOR_ZERO q → HeaderRefused p (record { problem = INDICATOR_ZERO; at = q }) → HeaderAt p

sign_first : (p : Place) → is_sign (first p) ≡ true → DigitAt (skip 1 p) → HeaderAt p
sign_first p sign (none_there none is) =
    reads (header_of (sign_of (first p)) None) (skip 1 p) (signed p sign ∙ ap (λ (r : Read (Option ℕ)). r >>= after_sign p) is)
    (sign_alone sign (subst (λ (c : ℕ). is_digit c ≡ false) (first_on 1 p) none) refl refl)
sign_first p sign (zero_there zero_is is) =
    refuses (skip 1 p) (signed p sign ∙ ap (λ (r : Read (Option ℕ)). r >>= after_sign p) is) (zero_second sign (sym (first_on 1 p) ∙ zero_is) refl refl)
sign_first p sign (some_there d is) =
    let value : header_of (sign_of (first p)) (Some (first (skip 1 p) - 0x30)) ≡ header_of (sign_of (first p)) (Some (peek p 1 - 0x30)) = ap (λ (c : ℕ). header_of (sign_of (first p)) (Some (c - 0x30))) (first_on 1 p) in
    reads (header_of (sign_of (first p)) (Some (first (skip 1 p) - 0x30))) (skip 1 (skip 1 p)) (signed p sign ∙ ap (λ (r : Read (Option ℕ)). r >>= after_sign p) is)
    (sign_digit sign (subst IndentDigit (first_on 1 p) d) value (skip_skip 1 1 p))

digit_first : (p : Place) → IndentDigit (first p) → (b : Bool) → is_sign (first (skip 1 p)) ≡ b → HeaderAt p
digit_first p d true sign =
    let x : Found (Option ℕ) = record { value = Some (first p - 0x30); end = skip 1 p } in
    reads (header_of (sign_of (first (skip 1 p))) (Some (first p - 0x30))) (skip 1 (skip 1 p))
    (unsigned p (digit_unsigned (first p) d.digit) ∙ then_second (digit_at p) after_digit x _ (some_digit p d) (taken (is_sign (first (skip 1 p))) _ _ sign))
    (digit_sign d (subst (λ (c : ℕ). is_sign c ≡ true) (first_on 1 p) sign) (ap (λ (c : ℕ). header_of (sign_of c) (Some (first p - 0x30))) (first_on 1 p)) (skip_skip 1 1 p))
digit_first p d false none =
    let x : Found (Option ℕ) = record { value = Some (first p - 0x30); end = skip 1 p } in
    reads (header_of CLIP (Some (first p - 0x30))) (skip 1 p)
    (unsigned p (digit_unsigned (first p) d.digit) ∙ then_second (digit_at p) after_digit x _ (some_digit p d) (left (is_sign (first (skip 1 p))) _ _ none))
    (digit_alone d (subst (λ (c : ℕ). is_sign c ≡ false) (first_on 1 p) none) refl refl)

no_sign_first : (p : Place) → is_sign (first p) ≡ false → DigitAt p → HeaderAt p
no_sign_first p none (none_there plain is) =
    reads (header_of CLIP None) p (unsigned p none ∙ ap (λ (r : Read (Option ℕ)). r >>= after_digit) is) (neither none plain refl refl)
no_sign_first p none (zero_there zero_is is) = refuses p (unsigned p none ∙ ap (λ (r : Read (Option ℕ)). r >>= after_digit) is) (zero_first zero_is refl refl)
no_sign_first p none (some_there d is) = digit_first p d (is_sign (first (skip 1 p))) refl

at_header : (p : Place) → HeaderAt p
at_header p = elim (cases_Bool (is_sign (first p))) [ inl sign ↦ sign_first p sign (what_is (skip 1 p)) | inr none ↦ no_sign_first p none (what_is p) ]

header_from : (p : Place) (f : Found header_t) → HeaderAt p → header_at p ≡ Ok f → HeaderParts p f
header_from p f (reads h q is parts) e = subst (λ (x : Found header_t). HeaderParts p x) (sym (value_is f h q (sym is ∙ e))) parts
header_from p f (refuses q is r) e = absurd (let never = sym is ∙ e in cc)

refused_from : (p : Place) (e : Offence) → HeaderAt p → header_at p ≡ Err e → HeaderRefused p e
refused_from p e (reads h q is parts) x = absurd (let never = sym is ∙ x in cc)
refused_from p e (refuses q is r) x =
    let same : refuse {A = Found header_t} INDICATOR_ZERO q ≡ Err e = sym is ∙ x in
    let o : e ≡ record { problem = INDICATOR_ZERO; at = q } = cc in
    subst (λ (y : Offence). HeaderRefused p y) (sym o) r

header_to : (p : Place) (f : Found header_t) → HeaderParts p f → header_at p ≡ Ok f
header_to p f (sign_alone sign none value end) =
    let there = subst (λ (c : ℕ). is_digit c ≡ false) (sym (first_on 1 p)) none in
    signed p sign ∙ then_second (digit_at (skip 1 p)) (after_sign p) (record { value = None; end = skip 1 p }) (Ok f) (no_digit (skip 1 p) there) (both f (header_of (sign_of (first p)) None) (skip 1 p) value end)
header_to p f (sign_digit sign d value end) =
    let there = subst IndentDigit (sym (first_on 1 p)) d in
    let same : f.value ≡ header_of (sign_of (first p)) (Some (first (skip 1 p) - 0x30)) = value ∙ ap (λ (c : ℕ). header_of (sign_of (first p)) (Some (c - 0x30))) (sym (first_on 1 p)) in
    signed p sign ∙ then_second (digit_at (skip 1 p)) (after_sign p) (record { value = Some (first (skip 1 p) - 0x30); end = skip 1 (skip 1 p) }) (Ok f) (some_digit (skip 1 p) there)
    (both f (header_of (sign_of (first p)) (Some (first (skip 1 p) - 0x30))) (skip 1 (skip 1 p)) same (end ∙ sym (skip_skip 1 1 p)))
header_to p f (digit_sign d sign value end) =
    let there : is_sign (first (skip 1 p)) ≡ true = subst (λ (c : ℕ). is_sign c ≡ true) (sym (first_on 1 p)) sign in
    let same : f.value ≡ header_of (sign_of (first (skip 1 p))) (Some (first p - 0x30)) = value ∙ ap (λ (c : ℕ). header_of (sign_of c) (Some (first p - 0x30))) (sym (first_on 1 p)) in
    unsigned p (digit_unsigned (first p) d.digit) ∙ then_second (digit_at p) after_digit (record { value = Some (first p - 0x30); end = skip 1 p }) (Ok f) (some_digit p d)
    (taken (is_sign (first (skip 1 p))) _ _ there ∙ both f (header_of (sign_of (first (skip 1 p))) (Some (first p - 0x30))) (skip 1 (skip 1 p)) same (end ∙ sym (skip_skip 1 1 p)))
header_to p f (digit_alone d none value end) =
    let there : is_sign (first (skip 1 p)) ≡ false = subst (λ (c : ℕ). is_sign c ≡ false) (sym (first_on 1 p)) none in
    unsigned p (digit_unsigned (first p) d.digit) ∙ then_second (digit_at p) after_digit (record { value = Some (first p - 0x30); end = skip 1 p }) (Ok f) (some_digit p d)
    (left (is_sign (first (skip 1 p))) _ _ there ∙ both f (header_of CLIP (Some (first p - 0x30))) (skip 1 p) value end)
header_to p f (neither none plain value end) =
    unsigned p none ∙ then_second (digit_at p) after_digit (record { value = None; end = p }) (Ok f) (no_digit p plain) (both f (header_of CLIP None) p value end)

refused_to : (p : Place) (e : Offence) → HeaderRefused p e → header_at p ≡ Err e
refused_to p e (zero_first zero_is problem at) =
    let none : is_sign (first p) ≡ false = rw zero_is refl in
    unsigned p none ∙ first_refused (digit_at p) after_digit e (zero_digit p zero_is ∙ offence_is e INDICATOR_ZERO p problem at)
refused_to p e (zero_second sign zero_is problem at) =
    signed p sign ∙ first_refused (digit_at (skip 1 p)) (after_sign p) e (zero_digit (skip 1 p) (first_on 1 p ∙ zero_is) ∙ offence_is e INDICATOR_ZERO (skip 1 p) problem at)

pub header_parts : HeaderIsParts
header_parts p f = (header_from p f (at_header p), header_to p f)

pub header_refused : HeaderIsRefused
header_refused p e = (refused_from p e (at_header p), refused_to p e)

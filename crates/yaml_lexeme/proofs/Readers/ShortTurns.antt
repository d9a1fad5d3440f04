-- An escape and the short piece after it are parts of a quoted body.
use Rattle.std.proofs.Common.{zero, suc, ◌*◌, subst, inl, inr, add-zero, true, false, not, ◌||◌, ◌==◌, ◌≡◌, ℕ, ◌+◌, ◌<◌, ◌≤◌, List, [], ◌∷◌, ◌++◌, length, get_or, take, drop, refl, sym, ap, ◌∙◌, arith, append_assoc}
use Rattle.std.proofs.lemmas.Bool.Decides.{nat_tests}
use Rattle.std.proofs.lemmas.Str.{encode_ascii}
use Rattle.std.proofs.lemmas.List.{drop-drop, get_or-drop}
use Rattle.std.proofs.lemmas.Bool.{cases_lt}
use Rattle.std.specs.Char.{encode_utf8, digit_value}
use Rattle.yaml_text.specs.Utf8.{is_scalar}
use Rattle.std.specs.Prelude.{Some}
use Rattle.yaml_text.specs.Chars.{utf8}
use Rattle.yaml_text.specs.Classes.{is_z, is_break}
use Rattle.yaml_lexeme.specs.Classes.{is_white}
use Rattle.yaml_lexeme.specs.Escape.{escape, hex_escape, hex_len, simple_escape}
use Rattle.yaml_lexeme.specs.Place.{Place, first, peek, skip, run, run_len}
use Rattle.yaml_lexeme.specs.Quoted.{quote, body_part}
use Rattle.yaml_lexeme.specs.Reading.{found, part}
use Rattle.yaml_lexeme.specs.declared.runs.class_t.TheVariants.{DOUBLE}
use Rattle.yaml_lexeme.specs.inside.CommonEscapes.{byte_escape, IsDigit, SpellsFour}
use Rattle.yaml_lexeme.specs.inside.Gives.{TakesPart}
use Rattle.yaml_lexeme.specs.inside.Runs.{class_test}
use Rattle.yaml_lexeme.specs.inside.ShortRuns.{is_mark, ShortRun}
use Rattle.yaml_lexeme.specs.inside.Words.{GoesOn}
use Rattle.yaml_lexeme.proofs.Parts.PartByPart.{reads_more}
use Rattle.yaml_lexeme.proofs.Places.PlaceMoves.{skip_none, rest_skip, skip_skip, first_on, length_skip, is_there}
use Rattle.yaml_lexeme.proofs.ManyBytes.QuietRuns.{lead_of, lead_high}
use Rattle.yaml_lexeme.proofs.Readers.EscapeDigits.{Digits, digit_passes, more_digits, a_scalar}
use Rattle.yaml_lexeme.proofs.Readers.QuotedBody.{at_escape, takes_char, body_shortens}
use Rattle.yaml_lexeme.proofs.Readers.QuotedLines.{run_goes_on}

-- what is known of the character after the backslash
byte_simple : (c : ℕ) → 0 < byte_escape c → simple_escape c ≡ Some (byte_escape c)
byte_simple c h = grind (arith, nat_tests)

byte_no_hex : (c : ℕ) → 0 < byte_escape c → hex_len c ≡ 0
byte_no_hex c h = grind (arith, nat_tests)

byte_low : (c : ℕ) → 0 < byte_escape c → byte_escape c < 128
byte_low c h = grind (arith, nat_tests)

pub byte_passes : (c : ℕ) → 0 < byte_escape c → record { some : 0 < c; ascii : c < 128; inside : is_break c ≡ false }
byte_passes c h = record { some = grind (arith, nat_tests); ascii = grind (arith, nat_tests); inside = grind (arith, nat_tests) }

pub u_passes : (c : ℕ) → c ≡ 0x75 → record { some : 0 < c; ascii : c < 128; inside : is_break c ≡ false }
u_passes c e = record { some = omega arith; ascii = omega arith; inside = rw e refl }

mark_inside : (c : ℕ) → is_mark c ≡ true → is_break c ≡ false
mark_inside c h = grind (arith, nat_tests)

simple_found : (p : Place) (v : ℕ) → hex_len (peek p 1) ≡ 0 → simple_escape (peek p 1) ≡ Some v → escape p ≡ found v (skip 2 p)
unfolding escape
simple_found p v none is = rw (none, is) refl

byte_found : (p : Place) → 0 < byte_escape (peek p 1) → escape p ≡ found (byte_escape (peek p 1)) (skip 2 p)
byte_found p h = simple_found p (byte_escape (peek p 1)) (byte_no_hex (peek p 1) h) (byte_simple (peek p 1) h)

hex_found : (p q : Place) (c : ℕ) → peek p 1 ≡ 0x75 → hex_escape 4 (skip 2 p) ≡ found c q → escape p ≡ found c q
unfolding escape
hex_found p q c e h = rw (e, h) refl

one_part : (p q : Place) (c : ℕ) → first p ≡ 0x5C → is_break (peek p 1) ≡ false → escape p ≡ found c q → body_part false p ≡ part (c ∷ []) q
one_part p q c here inside is =
    let more : is_z (first p) ≡ false = rw here refl in
    let other : is_white (first p) ≡ false = rw here refl in
    let inside2 : (first p == quote false) ≡ false = rw here refl in
    let plain : (false || not (first p == 0x5C)) ≡ false = rw here refl in
    rw (at_escape false p more other inside2 plain inside, is) refl

-- the character of an escape, and the piece after it
goes : (p q r : Place) (c n : ℕ) (out new : List ℕ) → body_part false p ≡ part (c ∷ []) q → ShortRun q r n → new ≡ out ++ (encode_utf8 c ++ take n (utf8 q.rest)) → GoesOn false p out r new
goes p q r c n out new one is e whole reads =
    let took : TakesPart utf8 (body_part false p) true out (out ++ encode_utf8 c) p q = takes_char (body_part false p) c out (out ++ encode_utf8 c) p q one refl in
    let more = (reads_more utf8 (body_part false) (body_shortens false) p q out (out ++ encode_utf8 c) whole took reads).1 in
    let value : new ≡ (out ++ encode_utf8 c) ++ utf8 (run (class_test DOUBLE) q) = e ∙ ap (λ (x : List ℕ). out ++ (encode_utf8 c ++ x)) (sym is.1.0) ∙ sym (append_assoc out (encode_utf8 c) (utf8 (run (class_test DOUBLE) q))) in
    run_goes_on false q r (out ++ encode_utf8 c) new is.0 value (mark_inside (first r) is.1.1) whole more

pub byte_goes : (p r : Place) (n : ℕ) (out new : List ℕ) → first p ≡ 0x5C → 0 < byte_escape (peek p 1) → ShortRun (skip 2 p) r n → new ≡ out ++ (byte_escape (peek p 1) ∷ take n (utf8 (skip 2 p).rest)) → GoesOn false p out r new
byte_goes p r n out new here some is e =
    let c = byte_escape (peek p 1) in
    let one = one_part p (skip 2 p) c here (byte_passes (peek p 1) some).inside (byte_found p some) in
    let value : new ≡ out ++ (encode_utf8 c ++ take n (utf8 (skip 2 p).rest)) = e ∙ ap (λ (x : List ℕ). out ++ (x ++ take n (utf8 (skip 2 p).rest))) (sym (encode_ascii c (byte_low (peek p 1) some))) in
    goes p (skip 2 p) r c n out new one is value

pub hex_goes : (p q r : Place) (c n : ℕ) (out new : List ℕ) → first p ≡ 0x5C → peek p 1 ≡ 0x75 → hex_escape 4 (skip 2 p) ≡ found c q → ShortRun q r n → new ≡ out ++ (encode_utf8 c ++ take n (utf8 q.rest)) → GoesOn false p out r new
hex_goes p q r c n out new here u is run e =
    goes p q r c n out new (one_part p q c here (u_passes (peek p 1) u).inside (hex_found p q c u is)) run e

pub hex_short : (p q r : Place) (c n : ℕ) → first p ≡ 0x5C → peek p 1 ≡ 0x75 → hex_escape 4 (skip 2 p) ≡ found c q → ShortRun q r n → length r.rest + 1 ≤ length p.rest
hex_short p q r c n here u is run =
    let one = one_part p q c here (u_passes (peek p 1) u).inside (hex_found p q c u is) in
    let took = takes_char (body_part false p) c [] (encode_utf8 c) p q one refl in
    let less = (reads_more utf8 (body_part false) (body_shortens false) p q [] (encode_utf8 c) _ took refl).0 in
    omega (arith, less, ap (λ (x : Place). length x.rest) run.0, length_skip (run_len (class_test DOUBLE) q) q)

-- ---- bytes

next_list : (cs : List ℕ) → 0 < get_or cs 0 0 → get_or cs 0 0 < 128 → utf8 (drop 1 cs) ≡ drop 1 (utf8 cs)
next_list [] some low = absurd (omega arith)
next_list (c ∷ cs) some low = sym (ap (λ (x : List ℕ). drop 1 (x ++ utf8 cs)) (encode_ascii c low))

-- a character of ASCII is one byte
pub next_byte : (p : Place) → 0 < first p → first p < 128 → utf8 (skip 1 p).rest ≡ drop 1 (utf8 p.rest)
next_byte p some low = ap utf8 (rest_skip 1 p) ∙ next_list p.rest some low

pub two_bytes : (p : Place) → 0 < first p → first p < 128 → 0 < peek p 1 → peek p 1 < 128 → utf8 (skip 2 p).rest ≡ drop 1 (drop 1 (utf8 p.rest))
two_bytes p some low more next =
    let here : first (skip 1 p) ≡ peek p 1 = first_on 1 p in
    ap (λ (x : Place). utf8 x.rest) (sym (skip_skip 1 1 p)) ∙ next_byte (skip 1 p) (omega (arith, here)) (omega (arith, here)) ∙ ap (λ (x : List ℕ). drop 1 x) (next_byte p some low)

-- what is left after them is shorter
pub short_of : (p q r : Place) (n k : ℕ) → 0 < first p → q ≡ skip (k + 1) p → ShortRun q r n → length r.rest + 1 ≤ length p.rest
short_of p q r n k some e is =
    let there = is_there p 0 some in
    let left = length_skip (k + 1) p in
    let same = ap (λ (x : Place). length x.rest) e in
    let end = ap (λ (x : Place). length x.rest) is.0 in
    omega (arith, there, left, same, end, length_skip (run_len (class_test DOUBLE) q) q)

-- ---- four hex digits

digit_byte : (p : Place) → digit_value (first p) < 16 → utf8 (skip 1 p).rest ≡ drop 1 (utf8 p.rest)
digit_byte p h = let ok = digit_passes (first p) h in next_byte p ok.some ok.ascii

-- four digits are four bytes
pub four_bytes : (p : Place) → ((i : ℕ) → i < 4 → digit_value (peek p i) < 16) → utf8 (skip 4 p).rest ≡ drop 4 (utf8 p.rest)
four_bytes p each =
    let step : (k : ℕ) → k < 4 → utf8 (skip (k + 1) p).rest ≡ drop 1 (utf8 (skip k p).rest) = λ k l.
    ap (λ (x : Place). utf8 x.rest) (sym (skip_skip k 1 p)) ∙ digit_byte (skip k p) (omega (arith, ap digit_value (first_on k p), each k l)) in
    let bs = utf8 p.rest in
    let one : utf8 (skip 1 p).rest ≡ drop 1 bs = step 0 (omega arith) ∙ ap (λ (x : Place). drop 1 (utf8 x.rest)) (skip_none p) in
    let two : utf8 (skip 2 p).rest ≡ drop 2 bs = step 1 (omega arith) ∙ ap (λ (x : List ℕ). drop 1 x) one ∙ drop-drop 1 1 bs in
    let three : utf8 (skip 3 p).rest ≡ drop 3 bs = step 2 (omega arith) ∙ ap (λ (x : List ℕ). drop 1 x) two ∙ drop-drop 1 2 bs in
    step 3 (omega arith) ∙ ap (λ (x : List ℕ). drop 1 x) three ∙ drop-drop 1 3 bs

-- the first byte of a text is its first character, if it is ASCII
first_low : (cs : List ℕ) → get_or (utf8 cs) 0 0 < 128 → get_or cs 0 0 ≡ get_or (utf8 cs) 0 0
first_low [] h = refl
first_low (c ∷ cs) h =
    elim (cases_lt c 128) [
      | inl low ↦ sym (ap (λ (x : List ℕ). get_or (x ++ utf8 cs) 0 0) (encode_ascii c low))
      | inr high ↦ absurd (omega (arith, h, lead_of c (utf8 cs), lead_high c high))
    ]

-- one more digit was read
record OneMore (p : Place) (bytes : List ℕ) (k value d : ℕ) : Type 0 where
  here : digit_value (peek p k) < 16
  more : Digits p (k + 1) (value * 16 + d)
  left : utf8 (skip (k + 1) p).rest ≡ drop (k + 1) bytes

one_more : (p : Place) (bytes : List ℕ) (k value d : ℕ) → utf8 (skip k p).rest ≡ drop k bytes → IsDigit (get_or bytes k 0) d → d < 16 → Digits p k value → OneMore p bytes k value d
one_more p bytes k value d left is few digits =
    let q = skip k p in
    let byte : get_or (utf8 q.rest) 0 0 ≡ get_or bytes k 0 = ap (λ (x : List ℕ). get_or x 0 0) left ∙ get_or-drop k bytes 0 0 ∙ ap (λ i. get_or bytes i 0) (add-zero k) in
    let same : first q ≡ get_or bytes k 0 = first_low q.rest (omega (arith, byte, is.0)) ∙ byte in
    let at : peek p k ≡ get_or bytes k 0 = sym (first_on k p) ∙ same in
    let value_is : d ≡ digit_value (peek p k) = is.1 ∙ ap digit_value (sym at) in
    let ok = digit_passes (first q) (omega (arith, few, is.1, ap digit_value same)) in
    record {
      here = omega (arith, value_is, few);
      more = more_digits p k value d few value_is digits;
      left = ap (λ (x : Place). utf8 x.rest) (sym (skip_skip k 1 p)) ∙ next_byte q ok.some ok.ascii ∙ ap (λ (x : List ℕ). drop 1 x) left ∙ drop-drop 1 k bytes;
    }

each_of : (p : Place) → digit_value (peek p 0) < 16 → digit_value (peek p 1) < 16 → digit_value (peek p 2) < 16 → digit_value (peek p 3) < 16 → (i : ℕ) → i < 4 → digit_value (peek p i) < 16
each_of p a b c d zero l = a
each_of p a b c d (suc zero) l = b
each_of p a b c d (suc (suc zero)) l = c
each_of p a b c d (suc (suc (suc zero))) l = d
each_of p a b c d (suc (suc (suc (suc i)))) l = absurd (omega arith)

pub four_spelled : (p : Place) (bytes : List ℕ) (a b c d v : ℕ) → utf8 p.rest ≡ bytes → IsDigit (get_or bytes 0 0) a → a < 16 → IsDigit (get_or bytes 1 0) b → b < 16 → IsDigit (get_or bytes 2 0) c → c < 16 → IsDigit (get_or bytes 3 0) d → d < 16
    → v ≡ ((a * 16 + b) * 16 + c) * 16 + d → is_scalar v ≡ true → SpellsFour p v
four_spelled p bytes a b c d v e ha la hb lb hc lc hd ld v-is scalar =
    let none : Digits p 0 0 = record { within = omega arith; all = refl; same = refl; below = omega arith } in
    let start : utf8 (skip 0 p).rest ≡ drop 0 bytes = ap (λ (x : Place). utf8 x.rest) (skip_none p) ∙ e in
    let s0 = one_more p bytes 0 0 a start ha la none in
    let s1 = one_more p bytes 1 (0 * 16 + a) b s0.left hb lb s0.more in
    let s2 = one_more p bytes 2 ((0 * 16 + a) * 16 + b) c s1.left hc lc s1.more in
    let s3 = one_more p bytes 3 (((0 * 16 + a) * 16 + b) * 16 + c) d s2.left hd ld s2.more in
    let same : (((0 * 16 + a) * 16 + b) * 16 + c) * 16 + d ≡ v = omega (arith, v-is) in
    (a_scalar p 4 v scalar (subst (λ x. Digits p 4 x) same s3.more), each_of p s0.here s1.here s2.here s3.here)

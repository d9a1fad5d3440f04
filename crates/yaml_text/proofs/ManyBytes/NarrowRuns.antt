-- Bytes of characters of one and two bytes have clean windows.
use Rattle.std.proofs.Common.{◌≡◌, ℕ, ◌+◌, ◌-◌, ◌<◌, Bool, true, false, ◌&&◌, ◌||◌, List, get_or, drop, refl, sym, ap, ap₂, ◌∙◌, inl, inr, arith}
use Rattle.std.proofs.lemmas.Bool.{cases_lt, and_parts}
use Rattle.std.proofs.lemmas.Bool.Decides.{nat_tests}
use Rattle.std.proofs.lemmas.List.{drop-drop, get_or-drop}
use Rattle.yaml_text.specs.inside.Windows.{is_control, is_rare_lead, is_misplaced, is_bounded, is_paired, is_narrow, AreNarrow, AreClean}

no_control : (a b : ℕ) → is_bounded a ≡ true → is_paired a b ≡ true → is_control a ≡ false
no_control a b bound pair = grind (arith, nat_tests)

no_rare_lead : (a b : ℕ) → is_bounded a ≡ true → is_paired a b ≡ true → is_rare_lead a b ≡ false
no_rare_lead a b bound pair = grind (arith, nat_tests)

in_place : (a b c d : ℕ) → is_bounded a ≡ true → is_bounded b ≡ true → is_paired c d ≡ true → is_misplaced a b c d ≡ false
in_place a b c d bound next pair = grind (arith, nat_tests)

none : (x y z : Bool) → x ≡ false → y ≡ false → z ≡ false → (x || (y || z)) ≡ false
none x y z p q r = ap₂ (λ a b. a || b) p (ap₂ (λ a b. a || b) q r)

-- where three bytes in a row are narrow, the window of the first is clean
narrow_window : (a b c d : ℕ) → (is_bounded a && is_paired a b) ≡ true → (is_bounded b && is_paired b c) ≡ true → (is_bounded c && is_paired c d) ≡ true → (is_control a || (is_rare_lead a b || is_misplaced a b c d)) ≡ false
narrow_window a b c d one two three =
    let p = and_parts (is_bounded a) (is_paired a b) one in
    let q = and_parts (is_bounded b) (is_paired b c) two in
    let r = and_parts (is_bounded c) (is_paired c d) three in
    none _ _ _ (no_control a b p.0 p.1) (no_rare_lead a b p.0 p.1) (in_place a b c d p.0 q.0 r.1)

-- the byte j places after one that is i places on
later : (xs : List ℕ) (k i j m : ℕ) → i + j ≡ m → get_or (drop (k + i) xs) j 0 ≡ get_or (drop k xs) m 0
later xs k i j m e =
    let at : k + i + j ≡ k + m = omega arith in
    get_or-drop (k + i) xs j 0 ∙ ap (λ n. get_or xs n 0) at ∙ sym (get_or-drop k xs m 0)

pub narrow_clean : (bytes : List ℕ) (n : ℕ) → AreNarrow bytes n → AreClean bytes (n - 2)
narrow_clean bytes n narrow k lt =
    let byte = λ (m : ℕ). get_or (drop k bytes) m 0 in
    let at : (i : ℕ) → k + i < n → (is_bounded (byte i) && is_paired (byte i) (byte (i + 1))) ≡ true =
    λ i less. let here : i + 0 ≡ i = omega arith in sym (ap₂ (λ a b. is_bounded a && is_paired a b) (later bytes k i 0 i here) (later bytes k i 1 (i + 1) refl)) ∙ narrow (k + i) less in
    narrow_window (byte 0) (byte 1) (byte 2) (byte 3) (at 0 (omega arith)) (at 1 (omega arith)) (at 2 (omega arith))

pub narrow_more : (bytes : List ℕ) (n m : ℕ) → AreNarrow bytes n → AreNarrow (drop n bytes) m → AreNarrow bytes (n + m)
narrow_more bytes n m front after k lt =
    elim (cases_lt k n) [
      | inl l ↦ front k l
      | inr l ↦ let e : n + (k - n) ≡ k = omega arith in ap is_narrow (ap (λ i. drop i bytes) (sym e) ∙ sym (drop-drop (k - n) n bytes)) ∙ after (k - n) (omega arith)
    ]

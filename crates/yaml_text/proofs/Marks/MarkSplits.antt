-- The test of bytes that says where a text may be split is right.
use Rattle.std.proofs.Common.{◌≡◌, ◌==◌, ℕ, zero, suc, ◌+◌, ◌-◌, ◌<◌, ◌≤◌, Bool, true, false, ◌&&◌, List, [], ◌∷◌, ◌++◌, length, get_or, take, drop, add-zero, refl, sym, ap, ◌∙◌, subst, arith, inl, inr}
use Rattle.std.specs.Prelude.{IsTrue, ◌↔◌, nat_lt}
use Rattle.std.specs.Str.{chars, IsUtf8, IsCharBoundary}
use Rattle.std.proofs.lemmas.Bool.{cases_lt, and_parts, and_from, leb-true, le-leb, lt-ltb, not-true}
use Rattle.std.proofs.lemmas.Bool.Decides.{nat_tests}
use Rattle.std.proofs.lemmas.List.{append-nil, length-take, length-append, get_or-drop, get_or-take, get_or-append-add, take-append-drop, take_at, drop_at}
use Rattle.std.proofs.lemmas.Str.{encodes-append, length-encode, len_utf8_bounds, encodes_same, IsUtf8-take, IsUtf8-drop, encode_ascii}
use lib.Utf8.{encode, encodes}
use Rattle.yaml_text.specs.Chars.{utf8}
use Rattle.yaml_text.specs.TextBytes.{AreChars, IsText}
use Rattle.yaml_text.specs.Utf8.{continues}
use Rattle.yaml_text.specs.ClassCalls.{is_crlf_at}
use Rattle.yaml_text.specs.Mark.{cuts_break, IsPlaceAt, IsPlace}
use Rattle.yaml_text.specs.inside.Cursor.{is_place_by}
use Rattle.yaml_text.proofs.Characters.Utf8Spelling.{two, three, four}
use Rattle.yaml_text.proofs.Characters.CharRanges.{char_range}
use Rattle.yaml_text.proofs.Decodings.DecodeFronts.{chars-utf8, IsText-utf8, IsText-nil, scalars-AreChars}
use Rattle.yaml_text.proofs.Marks.MarkMoves.{Goes, goes, AreChars-parts}
use Rattle.yaml_text.proofs.Characters.ClassTables.{Leads, leads, code_table}

-- The bytes on both sides are texts.
pub record Parts (bytes : List ℕ) (index : ℕ) : Type 0 where
  pub within : index ≤ length bytes
  pub front : IsText (take index bytes)
  pub rest : IsText (drop index bytes)

utf8-IsText : (bytes : List ℕ) → IsText bytes → IsUtf8 bytes
utf8-IsText bytes t = (chars bytes, (scalars-AreChars (chars bytes) t.each, t.spelled))

pub parts_at : (bytes : List ℕ) (index : ℕ) → IsText bytes → IsCharBoundary bytes index → Parts bytes index
parts_at bytes index t b =
    let f = IsUtf8-take bytes index (utf8-IsText bytes t) b in
    let r = IsUtf8-drop bytes index (utf8-IsText bytes t) b in
    let whole : encodes (f.0 ++ r.0) ≡ encodes (chars bytes) = encodes-append f.0 r.0 ∙ ap (λ (x : List ℕ). x ++ encodes r.0) f.1.1 ∙ ap (λ (x : List ℕ). take index bytes ++ x) r.1.1 ∙ take-append-drop index bytes ∙ sym t.spelled in
    let each = AreChars-parts f.0 r.0 (subst AreChars (sym (encodes_same (f.0 ++ r.0) (chars bytes) whole)) t.each) in
    record { within = b.0; front = subst IsText f.1.1 (IsText-utf8 f.0 each.0); rest = subst IsText r.1.1 (IsText-utf8 r.0 each.1) }

-- the characters on both sides
chars_parts : (bytes : List ℕ) (index : ℕ) → IsText bytes → Parts bytes index → chars bytes ≡ chars (take index bytes) ++ chars (drop index bytes)
chars_parts bytes index t p =
    let f = chars (take index bytes) in
    let r = chars (drop index bytes) in
    encodes_same (chars bytes) (f ++ r) (t.spelled ∙ sym (take-append-drop index bytes) ∙ ap (λ (x : List ℕ). x ++ drop index bytes) (sym p.front.spelled) ∙ ap (λ (x : List ℕ). utf8 f ++ x) (sym p.rest.spelled) ∙ sym (encodes-append f r))

pub place_of_parts : (bytes : List ℕ) (index : ℕ) → IsText bytes → Parts bytes index → cuts_break (chars (take index bytes)) (chars (drop index bytes)) ≡ false → IsPlace (chars bytes) index
place_of_parts bytes index t p whole =
    let f = chars (take index bytes) in
    let r = chars (drop index bytes) in
    let e = chars_parts bytes index t p in
    let a : take (length f) (chars bytes) ≡ f = ap (λ (x : List ℕ). take (length f) x) e ∙ take_at f r (length f) refl in
    let b : drop (length f) (chars bytes) ≡ r = ap (λ (x : List ℕ). drop (length f) x) e ∙ drop_at f r (length f) refl in (
      length f,
      record {
        within = omega (arith, ap length e, length-append f r);
        index_is = omega (arith, ap (λ (x : List ℕ). length (utf8 x)) a, ap length p.front.spelled, length-take index bytes, p.within);
        whole = rw (a, b) whole;
      },
    )

nothing_before : (cs : List ℕ) → chars [] ++ cs ≡ cs
unfolding chars
nothing_before cs = refl

pub parts_of_place : (bytes : List ℕ) (index p : ℕ) → IsText bytes → IsPlaceAt (chars bytes) index p → Parts bytes index × (cuts_break (chars (take index bytes)) (chars (drop index bytes)) ≡ false)
parts_of_place bytes index p t at =
    let g = goes bytes 0 index (take p (chars bytes)) (drop p (chars bytes)) (omega arith) IsText-nil t (sym (take-append-drop p (chars bytes))) at.index_is in
    let e : 0 + index ≡ index = omega arith in
    let g' : Goes bytes 0 index (take p (chars bytes)) (drop p (chars bytes)) = subst (λ n. Goes bytes 0 n (take p (chars bytes)) (drop p (chars bytes))) e g in
    let before : chars (take index bytes) ≡ take p (chars bytes) = g'.before ∙ nothing_before (take p (chars bytes)) in
    (record { within = g'.within; front = g'.front; rest = g'.rest_is }, rw (before, g'.left) at.whole)

-- ---- the bytes at the seam

pub lead_starts : (c a b d : ℕ) → Leads c a b d → continues a ≡ false
lead_starts c a b d h = grind (arith, nat_tests)

pub no_continuation : (bytes : List ℕ) (index : ℕ) → Parts bytes index → continues (get_or bytes index 0) ≡ false
no_continuation bytes index p =
    let e : get_or bytes index 0 ≡ get_or (utf8 (chars (drop index bytes))) 0 0 = ap (λ n. get_or bytes n 0) (sym (add-zero index)) ∙ sym (get_or-drop index bytes 0 0) ∙ ap (λ (x : List ℕ). get_or x 0 0) (sym p.rest.spelled) in
    rw e (lead_starts _ _ _ _ (leads (chars (drop index bytes)) p.rest.each))

starts_high : (b : ℕ) → continues b ≡ false → 128 ≤ b → 192 ≤ b
starts_high b h high = grind (arith, nat_tests)

pub boundary_from_test : (bytes : List ℕ) (index : ℕ) → index ≤ length bytes → continues (get_or bytes index 0) ≡ false → IsCharBoundary bytes index
boundary_from_test bytes index within h = (within, λ lt high. starts_high (get_or bytes index 0) h high)

-- the last byte is CR if the last character is
last_code : (c : ℕ) → c < 0x110000 → (get_or (encode c) (length (encode c) - 1) 0 == 13) ≡ (c == 13)
last_code c h =
    elim (cases_lt c 128) [
      | inl a ↦ rw (encode_ascii c a) refl
      | inr a ↦ elim (cases_lt c 2048) [
        | inl b ↦ rw (two c a b) (grind (arith, nat_tests))
        | inr b ↦ elim (cases_lt c 65536) [
          | inl d ↦ rw (three c b d) (grind (arith, nat_tests))
          | inr d ↦ rw (four c d) (grind (arith, nat_tests))
        ]
      ]
    ]

last_index : (xs ys : List ℕ) → 0 < length ys → get_or (xs ++ ys) (length (xs ++ ys) - 1) 0 ≡ get_or ys (length ys - 1) 0
last_index xs ys some =
    let e : length (xs ++ ys) - 1 ≡ length xs + (length ys - 1) = omega (arith, length-append xs ys) in
    ap (λ n. get_or (xs ++ ys) n 0) e ∙ get_or-append-add xs ys (length ys - 1) 0

last_byte : (cs : List ℕ) → AreChars cs → (get_or (utf8 cs) (length (utf8 cs) - 1) 0 == 13) ≡ (get_or cs (length cs - 1) 0 == 13)
last_byte [] h = refl
last_byte (c ∷ []) h = let r = char_range c h.0 in rw (append-nil (encode c)) (last_code c (omega (arith, r.1)))
last_byte (c ∷ d ∷ cs) h =
    let some : 0 < length (utf8 (d ∷ cs)) = omega (arith, length-append (encode d) (utf8 cs), length-encode d, len_utf8_bounds d) in
    ap (λ n. n == 13) (last_index (encode c) (utf8 (d ∷ cs)) some) ∙ last_byte (d ∷ cs) h.1 ∙ ap (λ n. n == 13) (sym (last_index (c ∷ []) (d ∷ cs) (omega arith)))

pub seam_crlf : (bytes : List ℕ) (before : ℕ) → Parts bytes (before + 1) → is_crlf_at bytes before ≡ cuts_break (chars (take (before + 1) bytes)) (chars (drop (before + 1) bytes))
seam_crlf bytes before p =
    let f = chars (take (before + 1) bytes) in
    let r = chars (drop (before + 1) bytes) in
    let n : length (utf8 f) - 1 ≡ before = omega (arith, ap length p.front.spelled, length-take (before + 1) bytes, p.within) in
    let a : get_or bytes before 0 ≡ get_or (utf8 f) (length (utf8 f) - 1) 0 = sym (get_or-take (before + 1) bytes before 0 (omega arith)) ∙ ap (λ (x : List ℕ). get_or x before 0) (sym p.front.spelled) ∙ ap (λ k. get_or (utf8 f) k 0) (sym n) in
    let b : get_or bytes (before + 1) 0 ≡ get_or (utf8 r) 0 0 = ap (λ k. get_or bytes k 0) (sym (add-zero (before + 1))) ∙ sym (get_or-drop (before + 1) bytes 0 0) ∙ ap (λ (x : List ℕ). get_or x 0 0) (sym p.rest.spelled) in
    let x : (get_or bytes before 0 == 13) ≡ (get_or f (length f - 1) 0 == 13) = ap (λ k. k == 13) a ∙ last_byte f p.front.each in
    let y : (get_or bytes (before + 1) 0 == 10) ≡ (get_or r 0 0 == 10) = ap (λ k. k == 10) b ∙ code_table 10 _ _ _ _ (omega arith) (leads r p.rest.each) in
    ap (λ q. q && (get_or bytes (before + 1) 0 == 10)) x ∙ ap (λ q. (get_or f (length f - 1) 0 == 13) && q) y

-- ---- the test

start_whole : (left : List ℕ) → cuts_break (chars []) left ≡ false
unfolding chars
start_whole left = refl

seam_suc : (bytes : List ℕ) (n : ℕ) → Parts bytes (suc n) → (nat_lt 0 (suc n) && is_crlf_at bytes (suc n - 1)) ≡ cuts_break (chars (take (suc n) bytes)) (chars (drop (suc n) bytes))
seam_suc bytes n p =
    let e : suc n ≡ n + 1 = omega arith in
    let k : suc n - 1 ≡ n = omega arith in
    let s = seam_crlf bytes n (subst (λ i. Parts bytes i) e p) in
    rw (lt-ltb 0 (suc n) (omega arith), k) (s ∙ ap (λ i. cuts_break (chars (take i bytes)) (chars (drop i bytes))) (sym e))

whole_if : (bytes : List ℕ) (index : ℕ) → Parts bytes index → (nat_lt 0 index && is_crlf_at bytes (index - 1)) ≡ false → cuts_break (chars (take index bytes)) (chars (drop index bytes)) ≡ false
whole_if bytes zero p h = start_whole (chars (drop 0 bytes))
whole_if bytes (suc n) p h = sym (seam_suc bytes n p) ∙ h

whole_then : (bytes : List ℕ) (index : ℕ) → Parts bytes index → cuts_break (chars (take index bytes)) (chars (drop index bytes)) ≡ false → (nat_lt 0 index && is_crlf_at bytes (index - 1)) ≡ false
whole_then bytes zero p h = refl
whole_then bytes (suc n) p h = seam_suc bytes n p ∙ h

place_if : (bytes : List ℕ) (index : ℕ) → IsText bytes → is_place_by bytes index ≡ true → IsPlace (chars bytes) index
place_if bytes index t h =
    let both = and_parts _ _ h in
    let start = and_parts _ _ both.0 in
    let p = parts_at bytes index t (boundary_from_test bytes index (leb-true _ _ start.0) (not-true _ start.1)) in
    place_of_parts bytes index t p (whole_if bytes index p (not-true _ both.1))

place_then : (bytes : List ℕ) (index : ℕ) → IsText bytes → IsPlace (chars bytes) index → is_place_by bytes index ≡ true
place_then bytes index t place =
    let p = parts_of_place bytes index place.0 t place.1 in
    and_from _ _ (and_from _ _ (le-leb _ _ p.0.within) (rw (no_continuation bytes index p.0) refl)) (rw (whole_then bytes index p.0 p.1) refl)

pub place_test : (bytes cs : List ℕ) (index : ℕ) (b : Bool) → bytes ≡ utf8 cs → AreChars cs → b ≡ is_place_by bytes index → IsTrue b ↔ IsPlace cs index
place_test bytes cs index b e each b-is =
    let t : IsText bytes = subst IsText (sym e) (IsText-utf8 cs each) in
    let c : chars bytes ≡ cs = ap chars e ∙ chars-utf8 cs each in
    subst (λ (x : List ℕ). IsTrue b ↔ IsPlace x index) c ((λ h. place_if bytes index t (sym b-is ∙ h)), (λ h. b-is ∙ place_then bytes index t h))

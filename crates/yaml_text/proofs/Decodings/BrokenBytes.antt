-- What is wrong after the front and can not be mended is wrong of every input that goes on from there.
use Rattle.std.proofs.Common.{◌≡◌, ℕ, zero, suc, ◌+◌, ◌-◌, ◌/◌, ◌%◌, ◌≤◌, ◌⊎◌, Bool, true, false, not, ◌&&◌, List, [], ◌∷◌, ◌++◌, drop, length, Some, refl, ap, sym, ◌∙◌, subst, arith, inl, inr, append_assoc, le-ltb, ltb-false}
use Rattle.std.specs.Prelude.{nat_lt, slice_index, ◌==◌, if◌then◌else◌}
use Rattle.std.specs.Char.{len_utf8}
use Rattle.std.proofs.lemmas.Bool.{cases_Bool, cases_lt, false≢true}
use Rattle.std.proofs.lemmas.Str.{length-encode, len_utf8_bounds}
use Rattle.yaml_text.specs.declared.types.yaml_encoding_t.{yaml_encoding_t}
use Rattle.yaml_text.specs.declared.types.yaml_encoding_t.TheVariants.{YAML_ANY_ENCODING, YAML_UTF8_ENCODING, YAML_UTF16LE_ENCODING, YAML_UTF16BE_ENCODING}
use Rattle.yaml_text.specs.declared.offence.offence_t.{offence_t}
use Rattle.yaml_text.specs.Fault.{reader_fault}
use Rattle.yaml_text.specs.Decode.{after_bom, begins_with, bom_len, encoding_of, front, front_len, offence, refusal, refusal_of, spelling, spellings}
use Rattle.yaml_text.specs.Decoding.{BeginsWithNone, IsFront}
use Rattle.yaml_text.specs.TextBytes.{IsChar}
use Rattle.yaml_text.specs.Utf8.{continues, offence8, stray_at, value_of, width_of}
use Rattle.yaml_text.specs.Utf16.{is_high, is_low, offence16, spelling16, unit, unit_at}
use Rattle.yaml_text.specs.Pieces.{StaysBroken, breaks, ends_too_soon, is_known}
use Rattle.yaml_text.proofs.Characters.CharRanges.{char_range}
use Rattle.yaml_text.proofs.Characters.Utf8Spelling.{Stands, stands}
use Rattle.yaml_text.proofs.Characters.Utf16Spelling.{first_back, high_of, one_unit, two_units}
use Rattle.yaml_text.proofs.Decodings.DecodeReadings.{one_front}
use Rattle.yaml_text.proofs.Decodings.DecodeResults.{front_is}

-- UTF-8
-- how many octets a lead asks for
width_is : (b : ℕ) → (width_of b ≡ 0) ⊎ ((width_of b ≡ 1) ⊎ ((width_of b ≡ 2) ⊎ ((width_of b ≡ 3) ⊎ (width_of b ≡ 4))))
width_is b = elim (cases_Bool (nat_lt b 0x80)) [
  | inl p ↦ inr (inl (rw p refl))
  | inr p ↦ elim (cases_Bool (nat_lt b 0xC0)) [
    | inl q ↦ inl (rw (p, q) refl)
    | inr q ↦ elim (cases_Bool (nat_lt b 0xE0)) [
      | inl r ↦ inr (inr (inl (rw (p, q, r) refl)))
      | inr r ↦ elim (cases_Bool (nat_lt b 0xF0)) [
        | inl s ↦ inr (inr (inr (inl (rw (p, q, r, s) refl))))
        | inr s ↦ elim (cases_Bool (nat_lt b 0xF8)) [
          | inl t ↦ inr (inr (inr (inr (rw (p, q, r, s, t) refl))))
          | inr t ↦ inl (rw (p, q, r, s, t) refl)
        ]
      ]
    ]
  ]
]

-- a lead is there with all the octets that it asks for, or asks for none
all_there : (b : ℕ) (bytes : List ℕ) → breaks YAML_UTF8_ENCODING (b ∷ bytes) ≡ true → (width_of b ≡ 0) ⊎ (width_of b ≤ length (b ∷ bytes))
unfolding offence8
all_there b bytes broken = elim (cases_Bool (nat_lt (length (b ∷ bytes)) (width_of b))) [
  | inl short ↦ elim (width_is b) [
    | inl z ↦ inl z
    | inr w ↦ absurd (elim w [
      | inl one ↦ false≢true (rw (one, rw one at short) at broken)
      | inr more ↦ elim more [
        | inl two ↦ false≢true (rw (two, rw two at short) at broken)
        | inr rest ↦ elim rest [ inl three ↦ false≢true (rw (three, rw three at short) at broken) | inr four ↦ false≢true (rw (four, rw four at short) at broken) ]
      ]
    ])
  ]
  | inr long ↦ inr (ltb-false _ _ long)
]

-- what is wrong with them is wrong with all octets
module _ (b : ℕ) (more : List ℕ) where
  same_none : (bytes : List ℕ) → width_of b ≡ 0 → offence8 (b ∷ (bytes ++ more)) ≡ offence8 (b ∷ bytes)
  unfolding offence8
  same_none bytes w = rw w refl

  same_one : (bytes : List ℕ) → width_of b ≡ 1 → offence8 (b ∷ (bytes ++ more)) ≡ offence8 (b ∷ bytes)
  unfolding offence8 stray_at value_of
  same_one bytes w = rw (w, le-ltb (length (b ∷ (bytes ++ more))) 1 (omega arith), le-ltb (length (b ∷ bytes)) 1 (omega arith)) refl

  same_two : (y : ℕ) (ys : List ℕ) → width_of b ≡ 2 → offence8 (b ∷ y ∷ (ys ++ more)) ≡ offence8 (b ∷ y ∷ ys)
  unfolding offence8 stray_at value_of
  same_two y ys w = elim (cases_Bool (continues y)) [
    | inl c ↦ rw (w, le-ltb (length (b ∷ y ∷ (ys ++ more))) 2 (omega arith), le-ltb (length (b ∷ y ∷ ys)) 2 (omega arith), c) refl
    | inr c ↦ rw (w, le-ltb (length (b ∷ y ∷ (ys ++ more))) 2 (omega arith), le-ltb (length (b ∷ y ∷ ys)) 2 (omega arith), c) refl
  ]

  same_three : (y z : ℕ) (ys : List ℕ) → width_of b ≡ 3 → offence8 (b ∷ y ∷ z ∷ (ys ++ more)) ≡ offence8 (b ∷ y ∷ z ∷ ys)
  unfolding offence8 stray_at value_of
  same_three y z ys w =
      let l = le-ltb (length (b ∷ y ∷ z ∷ (ys ++ more))) 3 (omega arith) in
      let k = le-ltb (length (b ∷ y ∷ z ∷ ys)) 3 (omega arith) in
      elim (cases_Bool (continues y)) [
        | inl c ↦ elim (cases_Bool (continues z)) [ inl d ↦ rw (w, l, k, c, d) refl | inr d ↦ rw (w, l, k, c, d) refl ]
        | inr c ↦ rw (w, l, k, c) refl
      ]

  same_four : (y z u : ℕ) (ys : List ℕ) → width_of b ≡ 4 → offence8 (b ∷ y ∷ z ∷ u ∷ (ys ++ more)) ≡ offence8 (b ∷ y ∷ z ∷ u ∷ ys)
  unfolding offence8 stray_at value_of
  same_four y z u ys w =
      let l = le-ltb (length (b ∷ y ∷ z ∷ u ∷ (ys ++ more))) 4 (omega arith) in
      let k = le-ltb (length (b ∷ y ∷ z ∷ u ∷ ys)) 4 (omega arith) in
      elim (cases_Bool (continues y)) [
        | inl c ↦ elim (cases_Bool (continues z)) [
          | inl d ↦ elim (cases_Bool (continues u)) [ inl e ↦ rw (w, l, k, c, d, e) refl | inr e ↦ rw (w, l, k, c, d, e) refl ]
          | inr d ↦ rw (w, l, k, c, d) refl
        ]
        | inr c ↦ rw (w, l, k, c) refl
      ]

same_offence8 : (b : ℕ) (bytes more : List ℕ) → (width_of b ≡ 0) ⊎ (width_of b ≤ length (b ∷ bytes)) → offence8 (b ∷ (bytes ++ more)) ≡ offence8 (b ∷ bytes)
same_offence8 b bytes more (inl z) = same_none b more bytes z
same_offence8 b bytes more (inr l) = elim (width_is b) [
  | inl w ↦ same_none b more bytes w
  | inr v ↦ elim v [
    | inl w ↦ same_one b more bytes w
    | inr v ↦ elim v [
      | inl w ↦ two bytes w (rw w at l)
      | inr v ↦ elim v [ inl w ↦ three bytes w (rw w at l) | inr w ↦ four bytes w (rw w at l) ]
    ]
  ]
]
  where
    two : (bytes : List ℕ) → width_of b ≡ 2 → 2 ≤ length (b ∷ bytes) → offence8 (b ∷ (bytes ++ more)) ≡ offence8 (b ∷ bytes)
    two [] w l = absurd (omega arith)
    two (y ∷ ys) w l = same_two b more y ys w

    three : (bytes : List ℕ) → width_of b ≡ 3 → 3 ≤ length (b ∷ bytes) → offence8 (b ∷ (bytes ++ more)) ≡ offence8 (b ∷ bytes)
    three [] w l = absurd (omega arith)
    three (y ∷ []) w l = absurd (omega arith)
    three (y ∷ z ∷ ys) w l = same_three b more y z ys w

    four : (bytes : List ℕ) → width_of b ≡ 4 → 4 ≤ length (b ∷ bytes) → offence8 (b ∷ (bytes ++ more)) ≡ offence8 (b ∷ bytes)
    four [] w l = absurd (omega arith)
    four (y ∷ []) w l = absurd (omega arith)
    four (y ∷ z ∷ []) w l = absurd (omega arith)
    four (y ∷ z ∷ u ∷ ys) w l = same_four b more y z u ys w

-- what begins bytes, and is no longer than their front, begins that
prefix_within : (s t a more : List ℕ) → a ++ more ≡ s ++ t → length s ≤ length a → a ≡ s ++ drop (length s) a
prefix_within [] t a more e l = refl
prefix_within (x ∷ s) t [] more e l = absurd (omega arith)
prefix_within (x ∷ s) t (y ∷ a) more e l =
    let head : y ≡ x = cc in
    let tail : a ++ more ≡ s ++ t = cc in
    let r = prefix_within s t a more tail (omega arith) in
    λ k. head k ∷ r k

none_more8 : (b : ℕ) (bytes more : List ℕ) → (width_of b ≡ 0) ⊎ (width_of b ≤ length (b ∷ bytes)) → BeginsWithNone YAML_UTF8_ENCODING (b ∷ bytes) → BeginsWithNone YAML_UTF8_ENCODING (b ∷ (bytes ++ more))
none_more8 b bytes more there none c ok begins =
    let r = char_range c ok in
    let s : Stands (b ∷ (bytes ++ more)) c = subst (λ (x : List ℕ). Stands x c) (sym begins.1) (stands c begins.0 (omega (arith, r.1))) in
    let w : width_of b ≡ len_utf8 c = s.width in
    let n = length-encode c in
    let l = len_utf8_bounds c in
    elim there [
      | inl z ↦ absurd (omega arith)
      | inr long ↦ none c ok (drop (length (spelling YAML_UTF8_ENCODING c)) (b ∷ bytes), prefix_within (spelling YAML_UTF8_ENCODING c) begins.0 (b ∷ bytes) more begins.1 (omega arith))
    ]

-- UTF-16
abbrev breaks16 : Bool → List ℕ → Bool
breaks16 big bytes = not (ends_too_soon (offence16 big bytes).problem)

-- two bytes are there, and four of a pair
units_there : (big : Bool) (bytes : List ℕ) → breaks16 big bytes ≡ true → (2 ≤ length bytes) × (is_low (unit_at big bytes 0) ≡ false → is_high (unit_at big bytes 0) ≡ true → 4 ≤ length bytes)
unfolding offence16
units_there big [] broken = absurd (false≢true broken)
units_there big (a ∷ []) broken = absurd (false≢true broken)
units_there big (a ∷ b ∷ bytes) broken = (
  omega arith,
  λ low high. elim (cases_Bool (nat_lt (length (a ∷ b ∷ bytes)) 4)) [
    | inl short ↦ absurd (false≢true (rw (le-ltb (length (a ∷ b ∷ bytes)) 2 (omega arith), low, high, short) at broken))
    | inr long ↦ ltb-false _ _ long
  ],
)

-- what is wrong with them is wrong with all units
same_offence16 : (big : Bool) (bytes more : List ℕ) → breaks16 big bytes ≡ true → offence16 big (bytes ++ more) ≡ offence16 big bytes
unfolding offence16
same_offence16 big [] more broken = absurd (false≢true broken)
same_offence16 big (a ∷ []) more broken = absurd (false≢true broken)
same_offence16 big (a ∷ b ∷ bytes) more broken =
    let l = le-ltb (length (a ∷ b ∷ (bytes ++ more))) 2 (omega arith) in
    let k = le-ltb (length (a ∷ b ∷ bytes)) 2 (omega arith) in
    elim (cases_Bool (is_low (unit_at big (a ∷ b ∷ bytes) 0))) [
      | inl low ↦ rw (l, k, low) refl
      | inr low ↦ elim (cases_Bool (is_high (unit_at big (a ∷ b ∷ bytes) 0))) [
        | inl high ↦ pair bytes l k low high ((units_there big (a ∷ b ∷ bytes) broken).1 low high)
        | inr high ↦ rw (l, k, low, high) refl
      ]
    ]
  where
    pair : (bytes : List ℕ) → nat_lt (length (a ∷ b ∷ (bytes ++ more))) 2 ≡ false → nat_lt (length (a ∷ b ∷ bytes)) 2 ≡ false → is_low (unit_at big (a ∷ b ∷ bytes) 0) ≡ false → is_high (unit_at big (a ∷ b ∷ bytes) 0) ≡ true → 4 ≤ length (a ∷ b ∷ bytes)
        → offence16 big (a ∷ b ∷ (bytes ++ more)) ≡ offence16 big (a ∷ b ∷ bytes)
    pair [] l k low high four = absurd (omega arith)
    pair (c ∷ []) l k low high four = absurd (omega arith)
    pair (c ∷ d ∷ bytes) l k low high four =
        let m = le-ltb (length (a ∷ b ∷ c ∷ d ∷ (bytes ++ more))) 4 (omega arith) in
        let n = le-ltb (length (a ∷ b ∷ c ∷ d ∷ bytes)) 4 (omega arith) in
        elim (cases_Bool (is_low (unit_at big (a ∷ b ∷ c ∷ d ∷ bytes) 2))) [
          | inl second ↦ rw (l, k, low, high, m, n, second) refl
          | inr second ↦ rw (l, k, low, high, m, n, second) refl
        ]

one_long : (big : Bool) (u : ℕ) → length (unit big u) ≡ 2
one_long true u = refl
one_long false u = refl

two_long : (big : Bool) (u v : ℕ) → length (unit big u ++ unit big v) ≡ 4
two_long true u v = refl
two_long false u v = refl

first_same : (big : Bool) (bytes more : List ℕ) → 2 ≤ length bytes → unit_at big (bytes ++ more) 0 ≡ unit_at big bytes 0
first_same big [] more l = absurd (omega arith)
first_same big (a ∷ []) more l = absurd (omega arith)
first_same big (a ∷ b ∷ bytes) more l = refl

-- a character that they begin with is within the units that are there
spelled_within : (big : Bool) (bytes more : List ℕ) (c : ℕ) → IsChar c → breaks16 big bytes ≡ true → (t : List ℕ) → bytes ++ more ≡ spelling16 big c ++ t → length (spelling16 big c) ≤ length bytes
spelled_within big bytes more c ok broken t e =
    let there = units_there big bytes broken in
    let r = char_range c ok in
    elim (cases_lt c 0x10000) [
      | inl small ↦ (let n = ap (λ (x : List ℕ). length x) (one_unit big c small) in let m = one_long big c in let l = there.0 in omega arith)
      | inr great ↦
          let high = 0xD800 + (c - 0x10000) / 1024 in
          let low = 0xDC00 + (c - 0x10000) % 1024 in
          let n = ap (λ (x : List ℕ). length x) (two_units big c great) in
          let m = two_long big high low in
          let q = high_of c great (omega (arith, r.1)) in
          let u : unit_at big bytes 0 ≡ high = sym (first_same big bytes more there.0) ∙ ap (λ (x : List ℕ). unit_at big x 0) (e ∙ ap (λ (x : List ℕ). x ++ t) (two_units big c great)) ∙ first_back big high low t in
          let l = there.1 (rw u q.0) (rw u q.1) in
          omega arith
    ]

none_more16 : (big : Bool) (b : ℕ) (bytes more : List ℕ) → breaks16 big (b ∷ bytes) ≡ true → ((c : ℕ) → IsChar c → (t : List ℕ) × (b ∷ bytes ≡ spelling16 big c ++ t) → ⊥) → (c : ℕ) → IsChar c → (t : List ℕ) × (b ∷ (bytes ++ more) ≡ spelling16 big c ++ t) → ⊥
none_more16 big b bytes more broken none c ok begins =
    none c ok (drop (length (spelling16 big c)) (b ∷ bytes), prefix_within (spelling16 big c) begins.0 (b ∷ bytes) more begins.1 (spelled_within big (b ∷ bytes) more c ok broken begins.0 begins.1))

-- ANY ENCODING
still_breaks : (e : yaml_encoding_t) (b : ℕ) (bytes more : List ℕ) → breaks e (b ∷ bytes) ≡ true → BeginsWithNone e (b ∷ bytes) → BeginsWithNone e (b ∷ (bytes ++ more)) × (offence e (b ∷ (bytes ++ more)) ≡ offence e (b ∷ bytes))
still_breaks YAML_ANY_ENCODING b bytes more broken none = (none_more8 b bytes more (all_there b bytes broken) none, same_offence8 b bytes more (all_there b bytes broken))
still_breaks YAML_UTF8_ENCODING b bytes more broken none = (none_more8 b bytes more (all_there b bytes broken) none, same_offence8 b bytes more (all_there b bytes broken))
still_breaks YAML_UTF16LE_ENCODING b bytes more broken none = (none_more16 false b bytes more broken none, same_offence16 false (b ∷ bytes) more broken)
still_breaks YAML_UTF16BE_ENCODING b bytes more broken none = (none_more16 true b bytes more broken none, same_offence16 true (b ∷ bytes) more broken)

-- THE BYTE ORDER MARK
drop-more : (n : ℕ) (a more : List ℕ) → n ≤ length a → drop n (a ++ more) ≡ drop n a ++ more
drop-more zero a more l = refl
drop-more (suc n) [] more l = absurd (omega arith)
drop-more (suc n) (x ∷ a) more l = drop-more n a more (omega arith)

few : (p q r : Bool) → (if p then 2 else if q then 2 else if r then 3 else 0) ≤ 3
few true q r = omega arith
few false true r = omega arith
few false false true = omega arith
few false false false = omega arith

bom_few : (input : List ℕ) → bom_len YAML_ANY_ENCODING input ≤ 3
bom_few input = few (begins_with 0xFF 0xFE input) (begins_with 0xFE 0xFF input) (begins_with 0xEF 0xBB input && slice_index input 2 == 0xBF)

pub record IsMore (setting : yaml_encoding_t) (a more : List ℕ) : Type 0 where
  pub encoding : encoding_of setting (a ++ more) ≡ encoding_of setting a
  pub bom : bom_len setting (a ++ more) ≡ bom_len setting a
  pub bytes : after_bom setting (a ++ more) ≡ after_bom setting a ++ more

pub is_more : (setting : yaml_encoding_t) (a more : List ℕ) → is_known setting a ≡ true → IsMore setting a more
is_more YAML_UTF8_ENCODING a more e = record { encoding = refl; bom = refl; bytes = refl }
is_more YAML_UTF16LE_ENCODING a more e = record { encoding = refl; bom = refl; bytes = refl }
is_more YAML_UTF16BE_ENCODING a more e = record { encoding = refl; bom = refl; bytes = refl }
is_more YAML_ANY_ENCODING [] more e = absurd (false≢true e)
is_more YAML_ANY_ENCODING (x ∷ []) more e = absurd (false≢true e)
is_more YAML_ANY_ENCODING (x ∷ y ∷ []) more e = absurd (false≢true e)
is_more YAML_ANY_ENCODING (x ∷ y ∷ z ∷ a) more e = record {
  encoding = refl;
  bom = refl;
  bytes = drop-more (bom_len YAML_ANY_ENCODING (x ∷ y ∷ z ∷ a)) (x ∷ y ∷ z ∷ a) more (let l = bom_few (x ∷ y ∷ z ∷ a) in let m : 3 ≤ length (x ∷ y ∷ z ∷ a) = omega arith in omega arith);
}

-- THE INPUT
encoding_is : (setting : yaml_encoding_t) (input : List ℕ) → (front setting input).encoding ≡ encoding_of setting input
unfolding front
encoding_is setting input = refl

module _ (setting : yaml_encoding_t) (given more : List ℕ) (known : is_known setting given ≡ true) where
  abbrev e : yaml_encoding_t
  e = encoding_of setting given

  abbrev left : List ℕ
  left = drop (front_len setting given) given

  m : IsMore setting given more
  m = is_more setting given more known

  abbrev Same : Type 0
  Same = (front setting (given ++ more) ≡ front setting given) × (refusal setting (given ++ more) ≡ refusal setting given)

  go : (rest : List ℕ) → left ≡ rest → breaks e rest ≡ true → Same
  unfolding refusal
  go [] q broken = absurd (false≢true broken)
  go (b ∷ bytes) q broken =
      let f : IsFront e (after_bom setting given) (front setting given).chars (b ∷ bytes) = subst (λ (x : List ℕ). IsFront e (after_bom setting given) (front setting given).chars x) q (front_is setting given) in
      let r = still_breaks e b bytes more broken f.longest in
      let longer : IsFront e (after_bom setting (given ++ more)) (front setting given).chars (b ∷ (bytes ++ more)) = record {
        parts = m.bytes ∙ ap (λ (x : List ℕ). x ++ more) f.parts ∙ append_assoc (spellings e (front setting given).chars) (b ∷ bytes) more;
        each = f.each;
        longest = r.0;
      } in
      let g : IsFront e (after_bom setting (given ++ more)) (front setting (given ++ more)).chars (drop (front_len setting (given ++ more)) (given ++ more)) = subst (λ (x : yaml_encoding_t). IsFront x (after_bom setting (given ++ more)) (front setting (given ++ more)).chars (drop (front_len setting (given ++ more)) (given ++ more))) m.encoding (front_is setting (given ++ more)) in
      let same = one_front _ _ _ _ _ _ g longer in
      let encodings : (front setting (given ++ more)).encoding ≡ (front setting given).encoding = encoding_is setting (given ++ more) ∙ m.encoding ∙ sym (encoding_is setting given) in
      let n = front_len setting given in
      let told : refusal_of (encoding_of setting (given ++ more)) (front_len setting (given ++ more)) (drop (front_len setting (given ++ more)) (given ++ more)) ≡ refusal_of e n (b ∷ (bytes ++ more)) = λ k. refusal_of (m.encoding k) (m.bom k + length (spellings (m.encoding k) (same.0 k))) (same.1 k) in (
        λ k. record { encoding = encodings k; chars = same.0 k },
        told ∙ ap (λ (o : offence_t). Some (reader_fault n o)) r.1 ∙ ap (λ (x : List ℕ). refusal_of e n x) (sym q),
      )

pub stays_broken : StaysBroken
stays_broken setting given more known broken = go setting given more known (drop (front_len setting given) given) refl broken

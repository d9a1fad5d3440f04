-- There is one reading of an input, and its front is the longest.
use Rattle.std.proofs.Common.{◌≡◌, ℕ, ◌<◌, ◌≤◌, true, false, List, [], ◌∷◌, ◌++◌, length, refl, sym, ap, ◌∙◌, subst, append_assoc, arith}
use Rattle.std.proofs.lemmas.List.{append-nil, length-append, append_cancel_left, nil_from_length}
use Rattle.std.proofs.lemmas.Str.{length-encode, len_utf8_bounds}
use lib.Utf8.{encode}
use Rattle.yaml_text.specs.declared.types.yaml_encoding_t.{yaml_encoding_t}
use Rattle.yaml_text.specs.declared.types.yaml_encoding_t.TheVariants.{YAML_ANY_ENCODING, YAML_UTF8_ENCODING, YAML_UTF16LE_ENCODING, YAML_UTF16BE_ENCODING}
use Rattle.yaml_text.specs.TextBytes.{IsChar, AreChars}
use Rattle.yaml_text.specs.Utf8.{value_of, value8}
use Rattle.yaml_text.specs.Decode.{spelling, spellings, value_in_front}
use Rattle.yaml_text.specs.Decoding.{Begins, BeginsWithNone, IsFront}
use Rattle.yaml_text.proofs.Characters.Utf8Spelling.{Stands, stands}
use Rattle.yaml_text.proofs.Characters.CharRanges.{char_range}
use Rattle.yaml_text.proofs.Characters.Utf16Spelling.{value16_is, some_units}

value8_is : (bytes : List ℕ) (c : ℕ) → IsChar c → Begins YAML_UTF8_ENCODING c bytes → value8 bytes ≡ c
value8_is bytes c ok b =
    let r = char_range c ok in
    let s : Stands bytes c = subst (λ (x : List ℕ). Stands x c) (sym b.1) (stands c b.0 (omega (arith, r.1))) in
    ap (λ (w : ℕ). value_of w bytes) s.width ∙ s.value

-- the value of the first octets or units is the character that they spell
pub value_is : (e : yaml_encoding_t) (bytes : List ℕ) (c : ℕ) → IsChar c → Begins e c bytes → value_in_front e bytes ≡ c
value_is YAML_ANY_ENCODING bytes c ok b = value8_is bytes c ok b
value_is YAML_UTF8_ENCODING bytes c ok b = value8_is bytes c ok b
value_is YAML_UTF16LE_ENCODING bytes c ok b = value16_is false bytes c ok b
value_is YAML_UTF16BE_ENCODING bytes c ok b = value16_is true bytes c ok b

some_octets : (c : ℕ) → 0 < length (encode c)
some_octets c = omega (arith, length-encode c, len_utf8_bounds c)

-- a spelling is not empty
pub some_spelling : (e : yaml_encoding_t) (c : ℕ) → IsChar c → 0 < length (spelling e c)
some_spelling YAML_ANY_ENCODING c ok = some_octets c
some_spelling YAML_UTF8_ENCODING c ok = some_octets c
some_spelling YAML_UTF16LE_ENCODING c ok = some_units false c ok
some_spelling YAML_UTF16BE_ENCODING c ok = some_units true c ok

pub spellings-cons : (e : yaml_encoding_t) (c : ℕ) (cs : List ℕ) → spellings e (c ∷ cs) ≡ spelling e c ++ spellings e cs
spellings-cons YAML_ANY_ENCODING c cs = refl
spellings-cons YAML_UTF8_ENCODING c cs = refl
spellings-cons YAML_UTF16LE_ENCODING c cs = refl
spellings-cons YAML_UTF16BE_ENCODING c cs = refl

pub spellings-nil : (e : yaml_encoding_t) → spellings e [] ≡ []
spellings-nil YAML_ANY_ENCODING = refl
spellings-nil YAML_UTF8_ENCODING = refl
spellings-nil YAML_UTF16LE_ENCODING = refl
spellings-nil YAML_UTF16BE_ENCODING = refl

-- no spelling begins another
pub spelling_same : (e : yaml_encoding_t) (c d : ℕ) (a b : List ℕ) → IsChar c → IsChar d → spelling e c ++ a ≡ spelling e d ++ b → (c ≡ d) × (a ≡ b)
spelling_same e c d a b c-ok d-ok same =
    let one : c ≡ d = sym (value_is e (spelling e c ++ a) c c-ok (a, refl)) ∙ value_is e (spelling e c ++ a) d d-ok (b, same) in
    (one, append_cancel_left (spelling e c) a b (same ∙ ap (λ x. spelling e x ++ b) (sym one)))

pub none_at_end : (e : yaml_encoding_t) (bytes : List ℕ) → length bytes ≤ 0 → BeginsWithNone e bytes
none_at_end e bytes h c ok b = absurd (omega (arith, ap length b.1, length-append (spelling e c) b.0, some_spelling e c ok))

-- what begins the bytes begins the front
begins_front : (e : yaml_encoding_t) (cs chars rest more : List ℕ) → AreChars cs → AreChars chars → BeginsWithNone e rest → spellings e chars ++ rest ≡ spellings e cs ++ more → (others : List ℕ) × (chars ≡ cs ++ others)
begins_front e [] chars rest more each all none same = (chars, refl)
begins_front e (d ∷ cs) [] rest more each all none same =
    absurd (none d each.0 (spellings e cs ++ more, ap (λ (x : List ℕ). x ++ rest) (sym (spellings-nil e)) ∙ same ∙ ap (λ (x : List ℕ). x ++ more) (spellings-cons e d cs) ∙ append_assoc (spelling e d) (spellings e cs) more))
begins_front e (d ∷ cs) (c ∷ chars) rest more each all none same =
    let left : spelling e c ++ (spellings e chars ++ rest) ≡ spellings e (c ∷ chars) ++ rest = sym (append_assoc (spelling e c) (spellings e chars) rest) ∙ ap (λ (x : List ℕ). x ++ rest) (sym (spellings-cons e c chars)) in
    let right : spellings e (d ∷ cs) ++ more ≡ spelling e d ++ (spellings e cs ++ more) = ap (λ (x : List ℕ). x ++ more) (spellings-cons e d cs) ∙ append_assoc (spelling e d) (spellings e cs) more in
    let s = spelling_same e c d (spellings e chars ++ rest) (spellings e cs ++ more) all.0 each.0 (left ∙ same ∙ right) in
    let r = begins_front e cs chars rest more each.1 all.1 none s.1 in
    (r.0, λ k. s.0 k ∷ r.1 k)

pub longest : (e : yaml_encoding_t) (bytes chars rest cs more : List ℕ) → IsFront e bytes chars rest → AreChars cs → bytes ≡ spellings e cs ++ more → length cs ≤ length chars
longest e bytes chars rest cs more f each same =
    let b = begins_front e cs chars rest more each f.each f.longest (sym f.parts ∙ same) in
    omega (arith, ap length b.1, length-append cs b.0)

-- two fronts are one
pub one_front : (e : yaml_encoding_t) (bytes c r d s : List ℕ) → IsFront e bytes c r → IsFront e bytes d s → (c ≡ d) × (r ≡ s)
one_front e bytes c r d s f g =
    let a = begins_front e d c r s g.each f.each f.longest (sym f.parts ∙ g.parts) in
    let b = begins_front e c d s r f.each g.each g.longest (sym g.parts ∙ f.parts) in
    let n : length a.0 ≡ 0 = omega (arith, ap length a.1, ap length b.1, length-append d a.0, length-append c b.0) in
    let same : c ≡ d = a.1 ∙ ap (λ (x : List ℕ). d ++ x) (nil_from_length a.0 n) ∙ append-nil d in
    (same, append_cancel_left (spellings e c) r s (sym f.parts ∙ g.parts ∙ ap (λ (x : List ℕ). spellings e x ++ s) (sym same)))

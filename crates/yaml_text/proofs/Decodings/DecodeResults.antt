-- What the functions of decoding return is the front, what is wrong after it, and what an input decodes to.
use Rattle.std.proofs.Common.{◌≡◌, ℕ, zero, suc, ◌+◌, ◌<◌, ◌≤◌, ◌⊎◌, Bool, true, false, cond, List, [], ◌∷◌, ◌++◌, length, take, drop, Option, Some, None, Ok, Err, refl, sym, ap, ◌∙◌, subst, append_assoc, inl, inr, arith}
use Rattle.std.specs.Prelude.{option_map, ◌&&◌, IsNone, IfSome}
use Rattle.std.specs.Str.{chars, bytes_eq}
use Rattle.std.proofs.lemmas.Bool.{and_parts, and_from, true≢false}
use Rattle.std.proofs.lemmas.Slice.Eq.{bytes_eq-Decides}
use Rattle.std.proofs.lemmas.List.{append-nil, length-append, length-take, length-drop, drop-drop, take-append-drop, take_at, drop_at}
use Rattle.yaml_text.specs.declared.types.yaml_encoding_t.{yaml_encoding_t}
use Rattle.yaml_text.specs.declared.types.yaml_encoding_t.TheVariants.{YAML_ANY_ENCODING, YAML_UTF8_ENCODING, YAML_UTF16LE_ENCODING, YAML_UTF16BE_ENCODING}
use Rattle.yaml_text.specs.declared.fault.yaml_fault_t.{yaml_fault_t}
use Rattle.yaml_text.specs.declared.offence.offence_t.{offence_t}
use Rattle.yaml_text.specs.Chars.{is_char, utf8}
use Rattle.yaml_text.specs.TextBytes.{IsChar, AreChars, IsText}
use Rattle.yaml_text.specs.Utf8.{offence8}
use Rattle.yaml_text.specs.Utf16.{offence16}
use Rattle.yaml_text.specs.inside.Units.{Reads16, BeginsWithNone16}
use Rattle.yaml_text.specs.Fault.{Fault, fault_of, reader_fault}
use Rattle.yaml_text.specs.Text.{Text}
use Rattle.yaml_text.specs.Decode.{spelling, spellings, value_in_front, first, and_then_list, first_chars, encoding_of}
use Rattle.yaml_text.specs.Decode.{bom_len, after_bom, offence, front, front_len, refusal, refusal_of}
use Rattle.yaml_text.specs.Decoding.{Begins, BeginsWithNone, IsFront, refusal_seen, unless_refused, decoding}
use Rattle.yaml_text.specs.Decoding.{IsLongestFront, Spells, IsRefused}
use Rattle.yaml_text.specs.inside.Fronts.{order, Fronts}
use Rattle.yaml_text.proofs.Decodings.DecodeReadings.{longest, value_is, some_spelling, spellings-cons, spellings-nil, none_at_end, one_front}

-- the first character, if there is one
abbrev FirstIs : yaml_encoding_t → List ℕ → Option ℕ → Type 0
FirstIs e bytes None = BeginsWithNone e bytes
FirstIs e bytes (Some c) = IsChar c × Begins e c bytes

begins : (e : yaml_encoding_t) (c : ℕ) (bytes : List ℕ) → bytes_eq (take (length (spelling e c)) bytes) (spelling e c) ≡ true → Begins e c bytes
begins e c bytes t =
    let n = length (spelling e c) in
    (drop n bytes, sym (take-append-drop n bytes) ∙ ap (λ (x : List ℕ). x ++ drop n bytes) ((bytes_eq-Decides (take n bytes) (spelling e c)).0 t))

in_front : (e : yaml_encoding_t) (c : ℕ) (bytes : List ℕ) → Begins e c bytes → bytes_eq (take (length (spelling e c)) bytes) (spelling e c) ≡ true
in_front e c bytes b =
    let n = length (spelling e c) in
    (bytes_eq-Decides (take n bytes) (spelling e c)).1 (ap (λ (x : List ℕ). take n x) b.1 ∙ take_at (spelling e c) b.0 n refl)

-- what the test says
tested : (e : yaml_encoding_t) (c : ℕ) (bytes : List ℕ) (b : Bool) → (is_char c && bytes_eq (take (length (spelling e c)) bytes) (spelling e c)) ≡ b → c ≡ value_in_front e bytes
    → (o : Option ℕ) → o ≡ cond b (Some c) None → FirstIs e bytes o
tested e c bytes true t c-is o o-is =
    let p = and_parts _ _ t in
    subst (FirstIs e bytes) (sym o-is) (p.0, begins e c bytes p.1)
tested e c bytes false t c-is o o-is = subst (FirstIs e bytes) (sym o-is) (λ d ok b.
    let same : d ≡ c = sym (value_is e bytes d ok b) ∙ sym c-is in
    let ok' : IsChar c = subst IsChar same ok in
    let b' : Begins e c bytes = subst (λ (x : ℕ). Begins e x bytes) same b in
    true≢false (sym (and_from _ _ ok' (in_front e c bytes b')) ∙ t))

first_is : (e : yaml_encoding_t) (bytes : List ℕ) → FirstIs e bytes (first e bytes)
unfolding first
first_is e bytes = tested e (value_in_front e bytes) bytes _ refl refl _ refl

-- the front of bytes, and the rest
abbrev Parts : yaml_encoding_t → List ℕ → List ℕ → Type 0
Parts e bytes chars = IsFront e bytes chars (drop (length (spellings e chars)) bytes)

front_by : (e : yaml_encoding_t) (n : ℕ) (bytes : List ℕ) (o : Option ℕ) → FirstIs e bytes o → length bytes ≤ suc n → ((more : List ℕ) → length more ≤ n → Parts e more (first_chars e n more))
    → Parts e bytes (and_then_list o (λ c. first_chars e n (drop (length (spelling e c)) bytes)))
front_by e n bytes None h le ih =
    let zero_len : length (spellings e []) ≡ 0 = ap length (spellings-nil e) in
    let all : drop (length (spellings e [])) bytes ≡ bytes = ap (λ k. drop k bytes) zero_len in
    subst (λ (x : List ℕ). IsFront e bytes [] x) (sym all) (record { parts = ap (λ (x : List ℕ). x ++ bytes) (sym (spellings-nil e)); each = tt; longest = h })
front_by e n bytes (Some c) h le ih =
    let more = h.1.0 in
    let len = length (spelling e c) in
    let d : drop len bytes ≡ more = ap (λ (x : List ℕ). drop len x) h.1.1 ∙ drop_at (spelling e c) more len refl in
    let short : length more ≤ n = omega (arith, ap length h.1.1, length-append (spelling e c) more, some_spelling e c h.0) in
    let f = ih more short in
    let cs = first_chars e n more in
    let rest = drop (length (spellings e cs)) more in
    let whole : bytes ≡ spellings e (c ∷ cs) ++ rest = h.1.1 ∙ ap (λ (x : List ℕ). spelling e c ++ x) f.parts ∙ sym (append_assoc (spelling e c) (spellings e cs) rest) ∙ ap (λ (x : List ℕ). x ++ rest) (sym (spellings-cons e c cs)) in
    let after : drop (length (spellings e (c ∷ cs))) bytes ≡ rest = ap (λ (x : List ℕ). drop (length (spellings e (c ∷ cs))) x) whole ∙ drop_at (spellings e (c ∷ cs)) rest (length (spellings e (c ∷ cs))) refl in
    let made : Parts e bytes (c ∷ cs) = subst (λ (x : List ℕ). IsFront e bytes (c ∷ cs) x) (sym after) (record { parts = whole; each = (h.0, f.each); longest = f.longest }) in
    subst (λ (x : List ℕ). Parts e bytes (c ∷ first_chars e n x)) (sym d) made

first_chars_are : (e : yaml_encoding_t) (n : ℕ) (bytes : List ℕ) → length bytes ≤ n → Parts e bytes (first_chars e n bytes)
unfolding first_chars
first_chars_are e zero bytes le =
    let zero_len : length (spellings e []) ≡ 0 = ap length (spellings-nil e) in
    let all : drop (length (spellings e [])) bytes ≡ bytes = ap (λ k. drop k bytes) zero_len in
    subst (λ (x : List ℕ). IsFront e bytes [] x) (sym all) (record { parts = ap (λ (x : List ℕ). x ++ bytes) (sym (spellings-nil e)); each = tt; longest = none_at_end e bytes le })
first_chars_are e (suc n) bytes le = front_by e n bytes (first e bytes) (first_is e bytes) le (first_chars_are e n)

-- a front is what the function gives
pub front_is : (setting : yaml_encoding_t) (input : List ℕ) → IsFront (encoding_of setting input) (after_bom setting input) (front setting input).chars (drop (front_len setting input) input)
unfolding front
front_is setting input =
    let e = encoding_of setting input in
    let bytes = after_bom setting input in
    let chars = first_chars e (length bytes) bytes in
    subst (λ (x : List ℕ). IsFront e bytes chars x) (drop-drop (length (spellings e chars)) (bom_len setting input) input) (first_chars_are e (length bytes) bytes (omega arith))

front-encoding : (setting : yaml_encoding_t) (input : List ℕ) → (front setting input).encoding ≡ encoding_of setting input
unfolding front
front-encoding setting input = refl

pub fronts_text : (setting : yaml_encoding_t) (input : List ℕ) (text : Text) (fault : Option Fault) → Fronts (encoding_of setting input) (bom_len setting input) (after_bom setting input) text fault → text ≡ front setting input
fronts_text setting input text fault f =
    let same = one_front _ _ _ _ _ _ f.front (front_is setting input) in
    λ k. record { encoding = (f.encoding ∙ sym (front-encoding setting input)) k; chars = same.0 k }

pub fronts_refusal : (setting : yaml_encoding_t) (input : List ℕ) (text : Text) (fault : Option Fault) → Fronts (encoding_of setting input) (bom_len setting input) (after_bom setting input) text fault → fault ≡ refusal setting input
unfolding refusal
fronts_refusal setting input text fault f =
    let e = encoding_of setting input in
    let same = one_front _ _ _ _ _ _ f.front (front_is setting input) in
    f.refusal ∙ (λ k. refusal_of e (bom_len setting input + length (spellings e (same.0 k))) (same.1 k))

-- it is the longest list of characters that begins the input
pub front_longest : (setting : yaml_encoding_t) (input : List ℕ) (text : Text) → text ≡ front setting input → IsLongestFront setting input text
front_longest setting input text is = subst (λ (x : Text). IsLongestFront setting input x) (sym is) (
    let e = encoding_of setting input in
    let bytes = after_bom setting input in
    let t = front setting input in
    let f = front_is setting input in
    let same = front-encoding setting input in
    record {
      encoding = same;
      each = f.each;
      rest = drop (front_len setting input) input;
      begins = subst (λ (x : yaml_encoding_t). bytes ≡ spellings x t.chars ++ drop (front_len setting input) input) (sym same) f.parts;
      longest = λ cs more each begin. longest e bytes t.chars (drop (front_len setting input) input) cs more f each (subst (λ (x : yaml_encoding_t). bytes ≡ spellings x cs ++ more) same begin);
    })

-- ---- what a front and an offence after it make

refusal_none : (e : yaml_encoding_t) (before : ℕ) (rest : List ℕ) → length rest ≡ 0 → None ≡ refusal_of e before rest
refusal_none e before [] z = refl
refusal_none e before (b ∷ rest) z = absurd (omega arith)

refusal_some : (e : yaml_encoding_t) (before : ℕ) (rest : List ℕ) (o : offence_t) → 0 < length rest → o ≡ offence e rest → Some (reader_fault before o) ≡ refusal_of e before rest
refusal_some e before [] o some o-is = absurd (omega arith)
refusal_some e before (b ∷ rest) o some o-is = ap (λ (x : offence_t). Some (reader_fault before x)) o-is

-- what is said of the offence after the first len bytes
abbrev OffenceIs : yaml_encoding_t → ℕ → List ℕ → Option offence_t → Type 0
OffenceIs e len bytes None = len ≡ length bytes
OffenceIs e len bytes (Some o) = (len < length bytes) × (o ≡ offence e (drop len bytes))

pub refusal_is : (e : yaml_encoding_t) (before len : ℕ) (bytes : List ℕ) (o : Option offence_t) → OffenceIs e len bytes o → option_map (reader_fault (before + len)) o ≡ refusal_of e (before + len) (drop len bytes)
refusal_is e before len bytes None h = refusal_none e (before + len) (drop len bytes) (omega (arith, length-drop len bytes))
refusal_is e before len bytes (Some o) h = refusal_some e (before + len) (drop len bytes) o (omega (arith, h.0, length-drop len bytes)) h.1

-- the first len bytes spell the front
pub fronts : (e : yaml_encoding_t) (before len : ℕ) (bytes cs : List ℕ) (text : Text) (fault : Option Fault) (o : Option offence_t) → text ≡ record { encoding = e; chars = cs } → AreChars cs → len ≤ length bytes → take len bytes ≡ spellings e cs
    → BeginsWithNone e (drop len bytes) → OffenceIs e len bytes o → fault ≡ option_map (reader_fault (before + len)) o → Fronts e before bytes text fault
fronts e before len bytes cs text fault o text-is each within spelt none told fault-is =
    let made : Text = record { encoding = e; chars = cs } in
    let size : len ≡ length (spellings e cs) = omega (arith, length-take len bytes, ap length spelt) in
    let whole : Fronts e before bytes made fault = record {
      rest = drop len bytes;
      encoding = refl;
      front = record { parts = sym (take-append-drop len bytes) ∙ ap (λ (x : List ℕ). x ++ drop len bytes) spelt; each = each; longest = none };
      refusal = fault-is ∙ refusal_is e before len bytes o told ∙ ap (λ n. refusal_of e (before + n) (drop len bytes)) size;
    } in
    subst (λ (x : Text). Fronts e before bytes x fault) (sym text-is) whole

offence_told : (e : yaml_encoding_t) (len : ℕ) (bytes : List ℕ) (o : Option offence_t) → (IsNone o → len ≡ length bytes) → IfSome o (λ x. x ≡ offence e (drop len bytes)) → IfSome o (λ x. len + x.offset < length bytes) → OffenceIs e len bytes o
offence_told e len bytes None whole is left = whole refl
offence_told e len bytes (Some o) whole is left = (omega (arith, left), is)

pub fronts8 : (before len : ℕ) (bytes : List ℕ) (text : Text) (fault : Option Fault) (o : Option offence_t) → text ≡ record { encoding = YAML_UTF8_ENCODING; chars = chars (take len bytes) } → len ≤ length bytes → IsText (take len bytes)
    → BeginsWithNone YAML_UTF8_ENCODING (drop len bytes) → (IsNone o → len ≡ length bytes) → IfSome o (λ x. x ≡ offence8 (drop len bytes)) → IfSome o (λ x. len + x.offset < length bytes) → fault ≡ option_map (reader_fault (before + len)) o
    → Fronts YAML_UTF8_ENCODING before bytes text fault
fronts8 before len bytes text fault o text-is within t none whole is left fault-is =
    fronts YAML_UTF8_ENCODING before len bytes (chars (take len bytes)) text fault o text-is t.each within (sym t.spelled) none (offence_told YAML_UTF8_ENCODING len bytes o whole is left) fault-is

pub fronts16 : (big : Bool) (before len : ℕ) (bytes utf8 : List ℕ) (text : Text) (fault : Option Fault) (o : Option offence_t) → text ≡ record { encoding = order big; chars = chars utf8 } → Reads16 big bytes utf8 len → BeginsWithNone16 big (drop len bytes)
    → (IsNone o → len ≡ length bytes) → IfSome o (λ x. x ≡ offence16 big (drop len bytes)) → IfSome o (λ x. len + x.offset < length bytes) → fault ≡ option_map (reader_fault (before + len)) o → Fronts (order big) before bytes text fault
fronts16 false before len bytes utf8 text fault o text-is r none whole is left fault-is =
    fronts YAML_UTF16LE_ENCODING before len bytes (chars utf8) text fault o text-is r.is_text.each r.within r.spelled none (offence_told YAML_UTF16LE_ENCODING len bytes o whole is left) fault-is
fronts16 true before len bytes utf8 text fault o text-is r none whole is left fault-is =
    fronts YAML_UTF16BE_ENCODING before len bytes (chars utf8) text fault o text-is r.is_text.each r.within r.spelled none (offence_told YAML_UTF16BE_ENCODING len bytes o whole is left) fault-is

-- what was found is the front of the input and its refusal
pub record Told (setting : yaml_encoding_t) (input : List ℕ) (text : Text) (fault : Option Fault) : Type 0 where
  pub text_is : text ≡ front setting input
  pub refusal_is : fault ≡ refusal setting input

pub by_encoding : (setting : yaml_encoding_t) (input : List ℕ) (e f : yaml_encoding_t) (before : ℕ) (bytes : List ℕ) (text : Text) (fault : Option Fault) → f ≡ encoding_of setting input → f ≡ e → before ≡ bom_len setting input → bytes ≡ drop before input
    → Fronts e before bytes text fault → Told setting input text fault
by_encoding setting input e f before bytes text fault f-is e-is before-is bytes-is found =
    let at-bytes : bytes ≡ after_bom setting input = bytes-is ∙ ap (λ n. drop n input) before-is in
    let one = subst (λ (x : yaml_encoding_t). Fronts x before bytes text fault) (sym e-is ∙ f-is) found in
    let two = subst (λ (x : ℕ). Fronts (encoding_of setting input) x bytes text fault) before-is one in
    let three = subst (λ (x : List ℕ). Fronts (encoding_of setting input) (bom_len setting input) x text fault) at-bytes two in
    record { text_is = fronts_text setting input text fault three; refusal_is = fronts_refusal setting input text fault three }

never_any : (a b : Bool) → cond a YAML_UTF16LE_ENCODING (cond b YAML_UTF16BE_ENCODING YAML_UTF8_ENCODING) ≡ YAML_ANY_ENCODING → ⊥
never_any true b e = cc e
never_any false true e = cc e
never_any false false e = cc e

pub not_any : (setting : yaml_encoding_t) (input : List ℕ) → encoding_of setting input ≡ YAML_ANY_ENCODING → ⊥
not_any YAML_ANY_ENCODING input e = never_any _ _ e
not_any YAML_UTF8_ENCODING input e = cc e
not_any YAML_UTF16LE_ENCODING input e = cc e
not_any YAML_UTF16BE_ENCODING input e = cc e

-- what is not UTF-16 is UTF-8
pub else_utf8 : (setting : yaml_encoding_t) (input : List ℕ) (e : yaml_encoding_t) → e ≡ encoding_of setting input → (e ≡ YAML_UTF16LE_ENCODING → ⊥) → (e ≡ YAML_UTF16BE_ENCODING → ⊥) → e ≡ YAML_UTF8_ENCODING
else_utf8 setting input YAML_ANY_ENCODING is n m = absurd (not_any setting input (sym is))
else_utf8 setting input YAML_UTF8_ENCODING is n m = refl
else_utf8 setting input YAML_UTF16LE_ENCODING is n m = absurd (n refl)
else_utf8 setting input YAML_UTF16BE_ENCODING is n m = absurd (m refl)

-- ---- what an input decodes to, and the relations

pub spells_is : (setting : yaml_encoding_t) (input : List ℕ) (text : Text) → Spells setting input text → decoding setting input ≡ Ok text
unfolding refusal
spells_is setting input text s =
    let e = encoding_of setting input in
    let bytes = after_bom setting input in
    let parts : bytes ≡ spellings e text.chars ++ [] = s.bytes ∙ ap (λ x. spellings x text.chars) s.encoding ∙ sym (append-nil (spellings e text.chars)) in
    let f : IsFront e bytes text.chars [] = record { parts = parts; each = s.each; longest = none_at_end e [] (omega arith) } in
    let same = one_front _ _ _ _ _ _ f (front_is setting input) in
    let text-is : text ≡ front setting input = λ k. record { encoding = (s.encoding ∙ sym (front-encoding setting input)) k; chars = same.0 k } in
    let none : refusal setting input ≡ None = ap (λ (x : List ℕ). refusal_of e (front_len setting input) x) (sym same.1) in
    ap (λ (x : Option Fault). unless_refused x (front setting input)) none ∙ ap (λ (x : Text). Ok x) (sym text-is)

some_refusal : (e : yaml_encoding_t) (before : ℕ) (rest : List ℕ) → 0 < length rest → refusal_of e before rest ≡ Some (reader_fault before (offence e rest))
some_refusal e before rest some = sym (refusal_some e before rest (offence e rest) some refl)

pub refused_is : (setting : yaml_encoding_t) (input : List ℕ) (fault : Fault) → IsRefused setting input fault → decoding setting input ≡ Err fault
unfolding refusal
refused_is setting input fault r =
    let e = encoding_of setting input in
    let same = one_front _ _ _ _ _ _ r.front (front_is setting input) in
    let some : refusal setting input ≡ Some fault =
    (λ k. refusal_of e (bom_len setting input + length (spellings e (sym same.0 k))) (sym same.1 k)) ∙ some_refusal e (bom_len setting input + length (spellings e r.chars)) r.rest r.left ∙ ap (λ (x : Fault). Some x) (sym r.fault_is) in
    ap (λ (x : Option Fault). unless_refused x (front setting input)) some

-- ---- the other way

rest_cases : (e : yaml_encoding_t) (before : ℕ) (rest : List ℕ) → ((rest ≡ []) × (refusal_of e before rest ≡ None)) ⊎ ((0 < length rest) × (refusal_of e before rest ≡ Some (reader_fault before (offence e rest))))
rest_cases e before [] = inl (refl, refl)
rest_cases e before (b ∷ rest) = inr (omega arith, refl)

spells_front : (setting : yaml_encoding_t) (input : List ℕ) → drop (front_len setting input) input ≡ [] → Spells setting input (front setting input)
spells_front setting input none =
    let e = encoding_of setting input in
    let f = front_is setting input in
    let chars = (front setting input).chars in
    record {
      encoding = front-encoding setting input;
      each = f.each;
      bytes = f.parts ∙ ap (λ (x : List ℕ). spellings e chars ++ x) none ∙ append-nil (spellings e chars) ∙ ap (λ x. spellings x chars) (sym (front-encoding setting input));
    }

refused_front : (setting : yaml_encoding_t) (input : List ℕ) → 0 < length (drop (front_len setting input) input) → IsRefused setting input (reader_fault (front_len setting input) (offence (encoding_of setting input) (drop (front_len setting input) input)))
refused_front setting input some = record { chars = (front setting input).chars; rest = drop (front_len setting input) input; front = front_is setting input; left = some; fault_is = refl }

pub is_spelled : (setting : yaml_encoding_t) (input : List ℕ) (text : Text) → decoding setting input ≡ Ok text → Spells setting input text
unfolding refusal
is_spelled setting input text d =
    elim (rest_cases (encoding_of setting input) (front_len setting input) (drop (front_len setting input) input)) [
      | inl none ↦
          let whole : unless_refused None (front setting input) ≡ Ok text = ap (λ (x : Option Fault). unless_refused x (front setting input)) (sym none.1) ∙ d in
          let same : front setting input ≡ text = cc whole in
          subst (Spells setting input) same (spells_front setting input none.0)
      | inr some ↦
          let f = reader_fault (front_len setting input) (offence (encoding_of setting input) (drop (front_len setting input) input)) in
          let whole : unless_refused (Some f) (front setting input) ≡ Ok text = ap (λ (x : Option Fault). unless_refused x (front setting input)) (sym some.1) ∙ d in
          absurd (cc whole)
    ]

pub is_refused : (setting : yaml_encoding_t) (input : List ℕ) (fault : Fault) → decoding setting input ≡ Err fault → IsRefused setting input fault
unfolding refusal
is_refused setting input fault d =
    elim (rest_cases (encoding_of setting input) (front_len setting input) (drop (front_len setting input) input)) [
      | inl none ↦
          let whole : unless_refused None (front setting input) ≡ Err fault = ap (λ (x : Option Fault). unless_refused x (front setting input)) (sym none.1) ∙ d in
          absurd (cc whole)
      | inr some ↦
          let f = reader_fault (front_len setting input) (offence (encoding_of setting input) (drop (front_len setting input) input)) in
          let whole : unless_refused (Some f) (front setting input) ≡ Err fault = ap (λ (x : Option Fault). unless_refused x (front setting input)) (sym some.1) ∙ d in
          let same : f ≡ fault = cc whole in
          subst (IsRefused setting input) same (refused_front setting input some.0)
    ]

-- accepted UTF-8 is its own text
pub own_text : (setting : yaml_encoding_t) (input : List ℕ) (text : Text) → Spells setting input text → text.encoding ≡ YAML_UTF8_ENCODING → utf8 text.chars ≡ after_bom setting input
own_text setting input text s e = ap (λ x. spellings x text.chars) (sym e) ∙ sym s.bytes

-- ---- what a call returned

pub front_none : (setting : yaml_encoding_t) (input : List ℕ) (text : Text) (fault : Option yaml_fault_t) → fault ≡ None → text ≡ front setting input → refusal_seen fault ≡ refusal setting input → decoding setting input ≡ Ok text
front_none setting input text fault none text-is refusal-is =
    ap (λ (x : Option Fault). unless_refused x (front setting input)) (sym refusal-is ∙ ap (λ (x : Option yaml_fault_t). refusal_seen x) none) ∙ ap (λ (x : Text). Ok x) (sym text-is)

pub front_some : (setting : yaml_encoding_t) (input : List ℕ) (fault : yaml_fault_t) (found : Option yaml_fault_t) → found ≡ Some fault → refusal_seen found ≡ refusal setting input → decoding setting input ≡ Err (fault_of fault)
front_some setting input fault found some refusal-is = ap (λ (x : Option Fault). unless_refused x (front setting input)) (sym refusal-is ∙ ap (λ (x : Option yaml_fault_t). refusal_seen x) some)

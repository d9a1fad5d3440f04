-- A cursor that moves on bytes moves as a place does on characters.
use Rattle.std.proofs.Common.{true, false, ◌≡◌, ℕ, zero, suc, ◌+◌, ◌-◌, ◌<◌, ◌≤◌, Bool, List, [], ◌∷◌, ◌++◌, length, get_or, take, drop, min, refl, sym, ap, ◌∙◌, subst, arith, inl, inr}
use Rattle.std.specs.List.{prefix_len, count_by}
use Rattle.std.specs.Str.{chars}
use Rattle.std.proofs.lemmas.Bool.{cases_Bool}
use Rattle.std.proofs.lemmas.List.Sums.{prefix_len-le-length}
use Rattle.std.proofs.lemmas.Bool.Decides.{nat_tests}
use Rattle.std.proofs.lemmas.List.{take-append-drop, take_at, drop_at, length-append}
use Rattle.std.proofs.lemmas.Str.{encodes-append, length-encode, len_utf8_bounds}
use Rattle.std.specs.Char.{len_utf8}
use lib.Utf8.{encode}
use Rattle.yaml_text.specs.declared.types.yaml_mark_t.{yaml_mark_t}
use Rattle.yaml_text.specs.Chars.{utf8}
use Rattle.yaml_text.specs.TextBytes.{AreChars, IsText}
use Rattle.yaml_text.specs.Classes.{is_break}
use Rattle.yaml_text.proofs.Decodings.DecodeFronts.{chars-utf8, IsText-utf8}
use Rattle.yaml_text.proofs.Marks.MarkMoves.{AreChars-parts}
use Rattle.yaml_text.proofs.Characters.ClassTables.{Leads, leads}
use Rattle.yaml_lexeme.specs.Place.{first, peek, Place, place_at, skip, after_run, run, run_len}
use Rattle.yaml_lexeme.specs.inside.Moves.{ends_line, skip_from, mark_after}
use Rattle.yaml_lexeme.specs.Counted.{IsMarkOf}
use Rattle.yaml_lexeme.specs.declared.runs.class_t.{class_t}
use Rattle.yaml_lexeme.specs.inside.Runs.{is_quiet, is_line, class_test, begins, Clear}
use Rattle.yaml_lexeme.proofs.ManyBytes.ClearRuns.{over_bytes}
use Rattle.yaml_lexeme.proofs.Places.PlaceMoves.{skip_skip, moved, rest_skip, is_there}
use Rattle.yaml_lexeme.proofs.Places.FirstCharacters.{head, ascii_head, past_ascii, some_bytes}
use Rattle.yaml_lexeme.proofs.ManyBytes.QuietRuns.{Over, over, along, count_chars, spaces_bytes, over_spaces}
use Rattle.yaml_lexeme.specs.declared.runs.class_t.TheVariants.{SPACE}

pub record QuietMove (class : class_t) (m : yaml_mark_t) (bytes : List ℕ) (n k : ℕ) : Type 0 where
  pub text : IsText (drop n bytes)
  pub goes : let p : Place = record { mark = m; rest = chars bytes } in let q : Place = record { mark = along m n k; rest = chars (drop n bytes) } in after_run (class_test class) q ≡ after_run (class_test class) p
  pub shorter : length (chars (drop n bytes)) ≤ length (chars bytes)

further : (test : ℕ → Bool) (p q : Place) (k : ℕ) → skip k p ≡ q → prefix_len test p.rest ≡ k + prefix_len test q.rest → after_run test q ≡ after_run test p
further test p q k e g = ap (skip (prefix_len test q.rest)) (sym e) ∙ skip_skip k (prefix_len test q.rest) p ∙ ap (λ n. skip n p) (sym g)

skip_is : (n : ℕ) (m : yaml_mark_t) (cs : List ℕ) → let p : Place = record { mark = m; rest = cs } in skip n p ≡ skip_from n m cs
unfolding skip
skip_is n m cs = refl

over_quiet : (class : class_t) (m : yaml_mark_t) (bytes : List ℕ) (n : ℕ) → IsText bytes → (is_line class ≡ true → Clear class bytes n) → (is_line class ≡ false → n ≡ prefix_len (is_quiet class) bytes) → Over class m (chars bytes) n
over_quiet class m bytes n t line narrow =
    elim (cases_Bool (is_line class)) [
      | inl is ↦ over_bytes class m bytes n is t (line is)
      | inr other ↦ subst (λ x. Over class m (chars bytes) x) (ap (prefix_len (is_quiet class)) t.spelled ∙ sym (narrow other)) (over class m (chars bytes) t.each)
    ]

pub quiet_moves : (class : class_t) (m : yaml_mark_t) (bytes : List ℕ) (n k : ℕ) → IsText bytes → (is_line class ≡ true → Clear class bytes n) → (is_line class ≡ false → n ≡ prefix_len (is_quiet class) bytes) → k ≡ count_by begins (take n bytes) → QuietMove class m bytes n k
quiet_moves class m bytes n k t line narrow k-is =
    let cs = chars bytes in
    let o : Over class m cs n = over_quiet class m bytes n t line narrow in
    let each = AreChars-parts o.front o.left (subst AreChars o.parts t.each) in
    let b : bytes ≡ utf8 o.front ++ utf8 o.left = sym t.spelled ∙ ap utf8 o.parts ∙ encodes-append o.front o.left in
    let tk : take n bytes ≡ utf8 o.front = ap (λ (x : List ℕ). take n x) b ∙ take_at (utf8 o.front) (utf8 o.left) n o.bytes in
    let dr : drop n bytes ≡ utf8 o.left = ap (λ (x : List ℕ). drop n x) b ∙ drop_at (utf8 o.front) (utf8 o.left) n o.bytes in
    let left : chars (drop n bytes) ≡ o.left = ap chars dr ∙ chars-utf8 o.left each.1 in
    let count : k ≡ length o.front = k-is ∙ ap (λ (x : List ℕ). count_by begins x) tk ∙ count_chars o.front in
    let p : Place = record { mark = m; rest = cs } in
    let q : Place = record { mark = along m n k; rest = chars (drop n bytes) } in
    let r : Place = record { mark = along m n (length o.front); rest = o.left } in
    let same : q ≡ r = λ i. record { mark = along m n (count i); rest = left i } in
    record {
      text = subst IsText (sym dr) (IsText-utf8 o.left each.1);
      goes = ap (λ (x : Place). after_run (class_test class) x) same ∙ further (class_test class) p r (length o.front) (skip_is (length o.front) m cs ∙ o.place) o.goes;
      shorter = omega (arith, ap length left, ap length o.parts, length-append o.front o.left);
    }

-- ---- a run

take_parts : (n : ℕ) (cs : List ℕ) → utf8 cs ≡ utf8 (take n cs) ++ utf8 (drop n cs)
take_parts n cs = ap utf8 (sym (take-append-drop n cs)) ∙ encodes-append (take n cs) (drop n cs)

-- the bytes that are left after n characters
pub skip_bytes : (k : ℕ) (p q : Place) (whole left : List ℕ) → q ≡ skip k p → whole ≡ utf8 p.rest → left ≡ utf8 q.rest → (length left ≤ length whole) × (take (length whole - length left) whole ≡ utf8 (take k p.rest))
skip_bytes k p q whole left e w l =
    let r : left ≡ utf8 (drop k p.rest) = l ∙ ap (λ (x : Place). utf8 x.rest) e ∙ ap utf8 (rest_skip k p) in
    let parts : whole ≡ utf8 (take k p.rest) ++ utf8 (drop k p.rest) = w ∙ take_parts k p.rest in
    let len : length whole ≡ length (utf8 (take k p.rest)) + length left = ap length parts ∙ length-append (utf8 (take k p.rest)) (utf8 (drop k p.rest)) ∙ ap (λ (x : List ℕ). length (utf8 (take k p.rest)) + length x) (sym r) in
    let n : length (utf8 (take k p.rest)) ≡ length whole - length left = omega (arith, len) in
    (omega (arith, len), ap (λ (x : List ℕ). take (length whole - length left) x) parts ∙ take_at (utf8 (take k p.rest)) (utf8 (drop k p.rest)) (length whole - length left) n)

-- and those that a run does
pub run_bytes : (test : ℕ → Bool) (p q : Place) (whole left : List ℕ) → q ≡ after_run test p → whole ≡ utf8 p.rest → left ≡ utf8 q.rest → (length left ≤ length whole) × (take (length whole - length left) whole ≡ utf8 (run test p))
run_bytes test p q whole left e w l = skip_bytes (prefix_len test p.rest) p q whole left e w l

-- ---- the place of a mark

-- how a mark moves over n characters
record Onward (n : ℕ) (m : yaml_mark_t) (cs : List ℕ) : Type 0 where
  index : (skip_from n m cs).mark.index ≡ m.index + length (utf8 (take n cs))
  sums : (skip_from n m cs).mark.line + (skip_from n m cs).mark.column ≤ (skip_from n m cs).mark.index

one_index : (m : yaml_mark_t) (c next : ℕ) → (mark_after m c next).index ≡ m.index + length (encode c)
one_index m c next = elim (cases_Bool (ends_line c next)) [ inl t ↦ rw t (omega (arith, length-encode c)) | inr f ↦ rw f (omega (arith, length-encode c)) ]

one_sums : (m : yaml_mark_t) (c next : ℕ) → m.line + m.column ≤ m.index → (mark_after m c next).line + (mark_after m c next).column ≤ (mark_after m c next).index
one_sums m c next h = elim (cases_Bool (ends_line c next)) [ inl t ↦ rw t (omega (arith, len_utf8_bounds c)) | inr f ↦ rw f (omega (arith, len_utf8_bounds c)) ]

onward : (n : ℕ) (m : yaml_mark_t) (cs : List ℕ) → m.line + m.column ≤ m.index → Onward n m cs
onward zero m cs h = record { index = omega arith; sums = h }
onward (suc n) m [] h = record { index = omega arith; sums = h }
onward (suc n) m (c ∷ cs) h =
    let m' = mark_after m c (get_or cs 0 0) in
    let o = onward n m' cs (one_sums m c (get_or cs 0 0) h) in
    record { index = omega (arith, o.index, one_index m c (get_or cs 0 0), length-append (encode c) (utf8 (take n cs))); sums = o.sums }

-- the index of a place is the length in bytes of the characters before it
pub place_index : (cs : List ℕ) (n : ℕ) → (place_at cs n).mark.index ≡ length (utf8 (take n cs))
unfolding skip
place_index cs n = omega (arith, (onward n (record { index = 0; line = 0; column = 0 }) cs (omega arith)).index)

pub place_within : (cs : List ℕ) (n : ℕ) → (place_at cs n).mark.index ≤ length (utf8 cs)
place_within cs n = omega (arith, place_index cs n, ap length (take_parts n cs), length-append (utf8 (take n cs)) (utf8 (drop n cs)))

-- the bytes from a mark on
pub record Found (bytes : List ℕ) (m : yaml_mark_t) (p : Place) : Type 0 where
  pub within : m.index ≤ length bytes
  pub text : IsText (drop m.index bytes)
  pub sums : m.line + m.column ≤ m.index
  pub place : let q : Place = record { mark = m; rest = chars (drop m.index bytes) } in q ≡ p

pub finds : (bytes cs : List ℕ) (m : yaml_mark_t) (n : ℕ) → bytes ≡ utf8 cs → AreChars cs → IsMarkOf cs m n → Found bytes m (place_at cs n)
unfolding skip
finds bytes cs m n e each at =
    let z : yaml_mark_t = record { index = 0; line = 0; column = 0 } in
    let o = onward n z cs (omega arith) in
    let mark : m ≡ (skip_from n z cs).mark = at.mark_is in
    let index : m.index ≡ length (utf8 (take n cs)) = omega (arith, ap (λ (x : yaml_mark_t). x.index) mark, o.index) in
    let parts : bytes ≡ utf8 (take n cs) ++ utf8 (drop n cs) = e ∙ take_parts n cs in
    let dr : drop m.index bytes ≡ utf8 (drop n cs) = ap (λ (x : List ℕ). drop m.index x) parts ∙ drop_at (utf8 (take n cs)) (utf8 (drop n cs)) m.index (sym index) in
    let two = AreChars-parts (take n cs) (drop n cs) (subst AreChars (sym (take-append-drop n cs)) each) in
    let left : chars (drop m.index bytes) ≡ (skip_from n z cs).rest = ap chars dr ∙ chars-utf8 (drop n cs) two.1 ∙ sym (rest_skip n (record { mark = z; rest = cs })) in
    record {
      within = omega (arith, index, ap length parts, length-append (utf8 (take n cs)) (utf8 (drop n cs)));
      text = subst IsText (sym dr) (IsText-utf8 (drop n cs) two.1);
      sums = subst (λ (x : yaml_mark_t). x.line + x.column ≤ x.index) (sym mark) o.sums;
      place = λ i. record { mark = mark i; rest = left i };
    }

pub index_after : (m : yaml_mark_t) (c next : ℕ) → (mark_after m c next).index ≡ m.index + len_utf8 c
index_after m c next = elim (cases_Bool (ends_line c next)) [ inl t ↦ rw t refl | inr f ↦ rw f refl ]

-- a character of ASCII that is no break is one byte and one column
pub record AsciiMove (m : yaml_mark_t) (bytes : List ℕ) : Type 0 where
  pub text : IsText (drop 1 bytes)
  pub place : let p : Place = record { mark = m; rest = chars bytes } in let q : Place = record { mark = along m 1 1; rest = chars (drop 1 bytes) } in q ≡ skip 1 p

ascii_mark : (m : yaml_mark_t) (c next : ℕ) → c < 128 → (c ≡ 10 → ⊥) → (c ≡ 13 → ⊥) → along m 1 1 ≡ mark_after m c next
ascii_mark m c next low a b =
    let none : is_break c ≡ false = grind (arith, nat_tests) in
    let one : len_utf8 c ≡ 1 = grind (arith, nat_tests) in
    rw (none, one) refl

pub ascii_moves : (m : yaml_mark_t) (bytes : List ℕ) → IsText bytes → 0 < length bytes → get_or bytes 0 0 < 128 → (get_or bytes 0 0 ≡ 10 → ⊥) → (get_or bytes 0 0 ≡ 13 → ⊥) → AsciiMove m bytes
ascii_moves m bytes t some low a b =
    let h = head bytes t some in
    let same : get_or bytes 0 0 ≡ get_or (chars bytes) 0 0 = ascii_head bytes t low in
    let k = past_ascii bytes t some low in
    let p : Place = record { mark = m; rest = chars bytes } in
    let c = get_or (chars bytes) 0 0 in
    let low' : c < 128 = omega (arith, same) in
    let a' : c ≡ 10 → ⊥ = λ e. a (same ∙ e) in
    let b' : c ≡ 13 → ⊥ = λ e. b (same ∙ e) in
    record {
      text = k.text;
      place = moved p m (along m 1 1) (chars bytes) (chars (drop 1 bytes)) (get_or p.rest 1 0) refl h.some refl (ascii_mark m c (get_or p.rest 1 0) low' a' b') k.rest;
    }

-- a line feed is one byte, and ends a line
pub record LineMove (m : yaml_mark_t) (bytes : List ℕ) : Type 0 where
  pub text : IsText (drop 1 bytes)
  pub place : let p : Place = record { mark = m; rest = chars bytes } in let q : Place = record { mark = record { index = m.index + 1; line = m.line + 1; column = 0 }; rest = chars (drop 1 bytes) } in q ≡ skip 1 p

line_feed_mark : (m : yaml_mark_t) (c next : ℕ) → c ≡ 10 → record { index = m.index + 1; line = m.line + 1; column = 0 } ≡ mark_after m c next
line_feed_mark m c next e = rw e refl

pub line_feed_moves : (m : yaml_mark_t) (bytes : List ℕ) → IsText bytes → 0 < length bytes → get_or bytes 0 0 ≡ 10 → LineMove m bytes
line_feed_moves m bytes t some e =
    let h = head bytes t some in
    let low : get_or bytes 0 0 < 128 = omega arith in
    let same : get_or bytes 0 0 ≡ get_or (chars bytes) 0 0 = ascii_head bytes t low in
    let k = past_ascii bytes t some low in
    let p : Place = record { mark = m; rest = chars bytes } in
    let m' : yaml_mark_t = record { index = m.index + 1; line = m.line + 1; column = 0 } in
    record {
      text = k.text;
      place = moved p m m' (chars bytes) (chars (drop 1 bytes)) (get_or p.rest 1 0) refl h.some refl (line_feed_mark m (get_or (chars bytes) 0 0) (get_or p.rest 1 0) (sym same ∙ e)) k.rest;
    }

-- the byte of an ASCII character that is here
pub record AsciiByte (bytes : List ℕ) (c : ℕ) : Type 0 where
  pub some : 0 < length bytes
  pub same : get_or bytes 0 0 ≡ c

ascii_leads : (c a b d : ℕ) → Leads c a b d → c < 128 → a ≡ c
ascii_leads c a b d h low = omega (arith, h)

pub ascii_byte : (m : yaml_mark_t) (bytes : List ℕ) (p : Place) → IsText bytes → (let q : Place = record { mark = m; rest = chars bytes } in q ≡ p) → 0 < first p → first p < 128 → AsciiByte bytes (first p)
ascii_byte m bytes p t view some low =
    let here : get_or (chars bytes) 0 0 ≡ first p = ap (λ (x : Place). first x) view in
    let h : Leads (get_or (chars bytes) 0 0) (get_or bytes 0 0) (get_or bytes 1 0) (get_or bytes 2 0) =
    subst (λ (x : List ℕ). Leads (get_or (chars bytes) 0 0) (get_or x 0 0) (get_or x 1 0) (get_or x 2 0)) t.spelled (leads (chars bytes) t.each) in
    let there = is_there p 0 some in
    record {
      some = some_bytes bytes t (omega (arith, there, ap (λ (x : Place). length x.rest) view));
      same = ascii_leads _ _ _ _ h (omega (arith, here)) ∙ here;
    }

-- the character of an ASCII byte that is here
pub ascii_here : (m : yaml_mark_t) (bytes : List ℕ) (p : Place) → IsText bytes → (let q : Place = record { mark = m; rest = chars bytes } in q ≡ p) → get_or bytes 0 0 < 128 → get_or bytes 0 0 ≡ first p
ascii_here m bytes p t view low = ascii_head bytes t low ∙ ap (λ (x : Place). first x) view

low_no_break : (c : ℕ) → c < 128 → (c ≡ 10 → ⊥) → (c ≡ 13 → ⊥) → is_break c ≡ false
low_no_break c low a b = grind (arith, nat_tests)

pub passes_here : (m : yaml_mark_t) (bytes : List ℕ) (p : Place) → IsText bytes → (let q : Place = record { mark = m; rest = chars bytes } in q ≡ p) → 0 < length bytes → get_or bytes 0 0 < 128 → (get_or bytes 0 0 ≡ 10 → ⊥) → (get_or bytes 0 0 ≡ 13 → ⊥)
    → record { some : 0 < first p; ascii : first p < 128; inside : is_break (first p) ≡ false }
passes_here m bytes p t view some low a b =
    let here = ascii_here m bytes p t view low in
    let h = head bytes t some in
    record {
      some = omega (arith, h.positive, ascii_head bytes t low, here);
      ascii = omega (arith, here);
      inside = low_no_break (first p) (omega (arith, here)) (λ e. a (here ∙ e)) (λ e. b (here ∙ e));
    }

no_break_is : (c k : ℕ) → is_break c ≡ false → is_break k ≡ true → c ≡ k → ⊥
no_break_is c k h t e = cc (ap is_break e)

-- after an ASCII character that is here and no break
pub pass_moves : (m : yaml_mark_t) (bytes : List ℕ) (p : Place) → IsText bytes → (let q : Place = record { mark = m; rest = chars bytes } in q ≡ p) → 0 < first p → first p < 128 → is_break (first p) ≡ false → AsciiByte bytes (first p) × AsciiMove m bytes
pass_moves m bytes p t view some low inside =
    let b = ascii_byte m bytes p t view some low in
    (b, ascii_moves m bytes t b.some (omega (arith, b.same)) (λ e. no_break_is (first p) 10 inside refl (sym b.same ∙ e)) (λ e. no_break_is (first p) 13 inside refl (sym b.same ∙ e)))

-- after a line feed that is here
pub feed_moves : (m : yaml_mark_t) (bytes : List ℕ) (p : Place) → IsText bytes → (let q : Place = record { mark = m; rest = chars bytes } in q ≡ p) → first p ≡ 10 → AsciiByte bytes (first p) × LineMove m bytes
feed_moves m bytes p t view feed =
    let b = ascii_byte m bytes p t view (omega arith) (omega arith) in
    (b, line_feed_moves m bytes t b.some (b.same ∙ feed))

return_mark : (m : yaml_mark_t) (c next : ℕ) → c ≡ 13 → next ≡ 10 → along m 1 1 ≡ mark_after m c next
return_mark m c next e n = rw (e, n) refl

-- after a carriage return that is here, before a line feed
pub return_moves : (m : yaml_mark_t) (bytes : List ℕ) (p : Place) → IsText bytes → (let q : Place = record { mark = m; rest = chars bytes } in q ≡ p) → first p ≡ 13 → peek p 1 ≡ 10 → AsciiByte bytes (first p) × AsciiMove m bytes
return_moves m bytes p t view e n =
    let b = ascii_byte m bytes p t view (omega arith) (omega arith) in
    let h = head bytes t b.some in
    let k = past_ascii bytes t b.some (omega (arith, b.same)) in
    let q : Place = record { mark = m; rest = chars bytes } in
    let here : get_or (chars bytes) 0 0 ≡ 13 = ap (λ (x : Place). first x) view ∙ e in
    let next : get_or (chars bytes) 1 0 ≡ 10 = ap (λ (x : Place). peek x 1) view ∙ n in (
      b,
      record {
        text = k.text;
        place = moved q m (along m 1 1) (chars bytes) (chars (drop 1 bytes)) (get_or q.rest 1 0) refl h.some refl (return_mark m (get_or (chars bytes) 0 0) (get_or q.rest 1 0) here next) k.rest;
      },
    )

-- a text's front is a place of it
pub at_front : (cs : List ℕ) → IsMarkOf cs (record { index = 0; line = 0; column = 0 }) 0
unfolding skip
at_front cs = record { within = omega arith; mark_is = refl }

-- the place after some of the first spaces
pub record SpaceMove (m : yaml_mark_t) (bytes : List ℕ) (p : Place) (k : ℕ) : Type 0 where
  pub within : k ≤ length bytes
  pub text : IsText (drop k bytes)
  pub place : let q : Place = record { mark = along m k k; rest = chars (drop k bytes) } in q ≡ skip k p

space_from : (m : yaml_mark_t) (bytes : List ℕ) (k : ℕ) → IsText bytes → k ≤ prefix_len (class_test SPACE) (chars bytes) → let p : Place = record { mark = m; rest = chars bytes } in SpaceMove m bytes p k
space_from m bytes k t low =
    let cs = chars bytes in
    let o = over_spaces m cs k low in
    let each = AreChars-parts (take k cs) (drop k cs) (subst AreChars (sym (take-append-drop k cs)) t.each) in
    let dr : drop k bytes ≡ utf8 (drop k cs) = ap (λ (x : List ℕ). drop k x) (sym t.spelled) ∙ o.bytes in
    let left : chars (drop k bytes) ≡ drop k cs = ap chars dr ∙ chars-utf8 (drop k cs) each.1 in
    record {
      within = omega (arith, low, spaces_bytes cs t.each, prefix_len-le-length (is_quiet SPACE) (utf8 cs), ap length t.spelled);
      text = subst IsText (sym dr) (IsText-utf8 (drop k cs) each.1);
      place = (λ i. record { mark = along m k k; rest = left i }) ∙ sym o.place ∙ sym (skip_is k m cs);
    }

-- how many spaces are here
pub spaces_here : (m : yaml_mark_t) (bytes : List ℕ) (p : Place) (n : ℕ) → IsText bytes → (let q : Place = record { mark = m; rest = chars bytes } in q ≡ p) → n ≡ prefix_len (is_quiet SPACE) bytes → n ≡ run_len (class_test SPACE) p
spaces_here m bytes p n t view n-is =
    n-is ∙ ap (prefix_len (is_quiet SPACE)) (sym t.spelled) ∙ spaces_bytes (chars bytes) t.each ∙ ap (λ (x : Place). run_len (class_test SPACE) x) view

pub space_moves : (m : yaml_mark_t) (bytes : List ℕ) (p : Place) (n most k : ℕ) → IsText bytes → (let q : Place = record { mark = m; rest = chars bytes } in q ≡ p) → n ≡ prefix_len (is_quiet SPACE) bytes → k ≡ min n most
    → (k ≡ min (run_len (class_test SPACE) p) most) × SpaceMove m bytes p k
space_moves m bytes p n most k t view n-is k-is =
    let same : n ≡ prefix_len (class_test SPACE) (chars bytes) = spaces_here m bytes _ n t refl n-is in
    (k-is ∙ ap (λ i. min i most) (spaces_here m bytes p n t view n-is), subst (λ (x : Place). SpaceMove m bytes x k) view (space_from m bytes k t (omega (arith, k-is, same))))

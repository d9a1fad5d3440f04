-- How a mark moves over a character and over a break.
use Rattle.std.proofs.Common.{◌≡◌, ◌==◌, leb, ℕ, suc, ◌+◌, ◌-◌, ◌<◌, ◌≤◌, Bool, true, false, cond, List, [], ◌∷◌, ◌++◌, length, get_or, take, drop, reverse, refl, sym, zero-add, add-zero, ap, ◌∙◌, subst, append_assoc, arith, inl, inr}
use Rattle.std.specs.Prelude.{not}
use Rattle.std.specs.Str.{chars}
use Rattle.std.specs.Char.{len_utf8}
use Rattle.std.proofs.lemmas.Bool.{cases_Bool, and_parts, eqb-true, false≢true, le-leb, lt-leb, ne_eqb}
use Rattle.std.proofs.lemmas.Bool.Decides.{nat_tests}
use Rattle.std.proofs.lemmas.List.{append-nil, take-append-drop, take_at, drop_at, length-append, length-take, reverse-append, get_or-drop, length-reverse, length-drop, drop-drop}
use Rattle.std.proofs.lemmas.List.Sums.{prefix_len-le-length}
use Rattle.std.proofs.lemmas.Str.{encodes-append, length-encode, length-le-encodes, len_utf8_bounds}
use Rattle.std.proofs.Math.Seq.{get_or-append_seam}
use lib.Utf8.{encode}
use Rattle.yaml_text.specs.declared.types.yaml_mark_t.{yaml_mark_t}
use Rattle.yaml_text.specs.Chars.{utf8}
use Rattle.yaml_text.specs.TextBytes.{AreChars, IsText}
use Rattle.yaml_text.specs.Utf8.{width_of}
use Rattle.yaml_text.specs.Classes.{is_break, is_crlf, is_z}
use Rattle.yaml_text.specs.ClassCalls.{Stands, is_crlf_at}
use Rattle.yaml_text.specs.MarkOn.{ends_break}
use Rattle.yaml_text.specs.Mark.{break_count, one_more_if, column, cuts_break, mark_of}
use Rattle.yaml_text.specs.inside.Cursor.{At, IsAt, at_of, past, first_break_len}
use Rattle.yaml_text.proofs.Characters.CharRanges.{char_range}
use Rattle.yaml_text.proofs.Characters.Utf8Spelling.{stands}
use Rattle.yaml_text.proofs.Characters.ClassTables.{crlf_law}
use Rattle.yaml_text.proofs.Decodings.DecodeFronts.{AreChars-append, chars-utf8, IsText-utf8, scalar-IsChar}

-- ---- one character more

no_lf : (x : ℕ) → is_crlf x 0 ≡ false
no_lf x = elim (cases_Bool (x == 13)) [ inl e ↦ rw e refl | inr e ↦ rw e refl ]

pub ends_whole : (x : ℕ) (after : List ℕ) → is_crlf x (get_or after 0 0) ≡ false → ends_break x after ≡ is_break x
ends_whole x after whole = rw whole (elim (cases_Bool (is_break x)) [ inl e ↦ rw e refl | inr e ↦ rw e refl ])

pub ends_last : (x : ℕ) → ends_break x [] ≡ is_break x
ends_last x = ends_whole x [] (no_lf x)

more_plus : (b : Bool) (m n : ℕ) → one_more_if b (m + n) ≡ one_more_if b m + n
more_plus true m n = omega arith
more_plus false m n = refl

last_tail : (x y : ℕ) (ys : List ℕ) → get_or (x ∷ y ∷ ys) (length (x ∷ y ∷ ys) - 1) 0 ≡ get_or (y ∷ ys) (length (y ∷ ys) - 1) 0
last_tail x y ys = let e : length (x ∷ y ∷ ys) - 1 ≡ suc (length (y ∷ ys) - 1) = omega arith in ap (λ n. get_or (x ∷ y ∷ ys) n 0) e

pub breaks-append : (xs ys : List ℕ) → cuts_break xs ys ≡ false → break_count (xs ++ ys) ≡ break_count xs + break_count ys
breaks-append [] ys whole = omega arith
breaks-append (x ∷ []) ys whole =
    ap (λ b. one_more_if b (break_count ys)) (ends_whole x ys whole ∙ sym (ends_last x)) ∙ ap (λ n. one_more_if (ends_break x []) n) (sym (zero-add (break_count ys))) ∙ more_plus (ends_break x []) 0 (break_count ys)
breaks-append (x ∷ y ∷ zs) ys whole =
    let whole_tail : cuts_break (y ∷ zs) ys ≡ false = ap (λ n. is_crlf n (get_or ys 0 0)) (sym (last_tail x y zs)) ∙ whole in
    ap (λ n. one_more_if (ends_break x (y ∷ zs)) n) (breaks-append (y ∷ zs) ys whole_tail) ∙ more_plus (ends_break x (y ∷ zs)) (break_count (y ∷ zs)) (break_count ys)

pub last_push : (xs : List ℕ) (c : ℕ) → get_or (xs ++ c ∷ []) (length (xs ++ c ∷ []) - 1) 0 ≡ c
last_push xs c =
    let e : length (xs ++ c ∷ []) - 1 ≡ length xs = omega (arith, length-append xs (c ∷ [])) in
    rw e (get_or-append_seam xs c [] 0)

column_next : (b : Bool) (n : ℕ) → cond (not b) (1 + n) 0 ≡ cond b 0 (suc n)
column_next true n = refl
column_next false n = omega arith

pub column-push : (xs : List ℕ) (c : ℕ) → column (xs ++ c ∷ []) ≡ cond (is_break c) 0 (suc (column xs))
unfolding column
column-push xs c = rw (reverse-append xs (c ∷ [])) (column_next (is_break c) _)

-- ---- from bytes to characters and back

pub AreChars-parts : (xs ys : List ℕ) → AreChars (xs ++ ys) → AreChars xs × AreChars ys
AreChars-parts [] ys h = (tt, h)
AreChars-parts (x ∷ xs) ys h = let p = AreChars-parts xs ys h.1 in ((h.0, p.0), p.1)

-- the bytes on both sides of a place, n bytes further, if the characters cs have n bytes
pub record Goes (bytes : List ℕ) (i j : ℕ) (cs rest : List ℕ) : Type 0 where
  pub within : j ≤ length bytes
  pub front : IsText (take j bytes)
  pub rest_is : IsText (drop j bytes)
  pub before : chars (take j bytes) ≡ chars (take i bytes) ++ cs
  pub left : chars (drop j bytes) ≡ rest

pub goes : (bytes : List ℕ) (i n : ℕ) (cs rest : List ℕ) → i ≤ length bytes → IsText (take i bytes) → IsText (drop i bytes) → chars (drop i bytes) ≡ cs ++ rest → n ≡ length (utf8 cs) → Goes bytes i (i + n) cs rest
goes bytes i n cs rest le t u e n-is =
    let before = chars (take i bytes) in
    let each = AreChars-parts cs rest (subst AreChars e u.each) in
    let fronts : AreChars (before ++ cs) = AreChars-append before cs t.each each.0 in
    let second : drop i bytes ≡ utf8 cs ++ utf8 rest = sym u.spelled ∙ ap utf8 e ∙ encodes-append cs rest in
    let first : utf8 (before ++ cs) ≡ take i bytes ++ utf8 cs = encodes-append before cs ∙ ap (λ (x : List ℕ). x ++ utf8 cs) t.spelled in
    let parts : bytes ≡ utf8 (before ++ cs) ++ utf8 rest = sym (take-append-drop i bytes) ∙ ap (λ (x : List ℕ). take i bytes ++ x) second ∙ sym (append_assoc (take i bytes) (utf8 cs) (utf8 rest)) ∙ ap (λ (x : List ℕ). x ++ utf8 rest) (sym first) in
    let len : length (utf8 (before ++ cs)) ≡ i + n = omega (arith, ap length first, length-append (take i bytes) (utf8 cs), length-take i bytes) in
    let f : take (i + n) bytes ≡ utf8 (before ++ cs) = ap (λ (x : List ℕ). take (i + n) x) parts ∙ take_at (utf8 (before ++ cs)) (utf8 rest) (i + n) len in
    let r : drop (i + n) bytes ≡ utf8 rest = ap (λ (x : List ℕ). drop (i + n) x) parts ∙ drop_at (utf8 (before ++ cs)) (utf8 rest) (i + n) len in
    record {
      within = omega (arith, ap length parts, length-append (utf8 (before ++ cs)) (utf8 rest));
      front = subst IsText (sym f) (IsText-utf8 (before ++ cs) fronts);
      rest_is = subst IsText (sym r) (IsText-utf8 rest each.1);
      before = ap chars f ∙ chars-utf8 (before ++ cs) fronts;
      left = ap chars r ∙ chars-utf8 rest each.1;
    }

-- ---- marks

pub same_at : (b b' l l' : List ℕ) → b ≡ b' → l ≡ l' → let x : At = record { before = b; left = l } in let y : At = record { before = b'; left = l' } in x ≡ y
same_at b b' l l' p q = λ k. record { before = p k; left = q k }

first_stands : (bytes left : List ℕ) (i : ℕ) → drop i bytes ≡ utf8 left → AreChars left → Stands bytes i (get_or left 0 0)
first_stands bytes [] i e h = inr (omega (arith, ap length e, length-drop i bytes), refl)
first_stands bytes (c ∷ cs) i e h = inl (scalar-IsChar c h.0, utf8 cs, e)

-- past a character that stands at i
past_first : (bytes cs : List ℕ) (c i : ℕ) → drop i bytes ≡ utf8 (c ∷ cs) → drop (i + len_utf8 c) bytes ≡ utf8 cs
past_first bytes cs c i e = sym (drop-drop (len_utf8 c) i bytes) ∙ ap (λ (x : List ℕ). drop (len_utf8 c) x) e ∙ drop_at (encode c) (utf8 cs) (len_utf8 c) (length-encode c)

second_stands : (bytes left : List ℕ) (i : ℕ) → drop i bytes ≡ utf8 left → AreChars left → Stands bytes (i + len_utf8 (get_or left 0 0)) (get_or left 1 0)
second_stands bytes [] i e h = inr (omega (arith, ap length e, length-drop i bytes), refl)
second_stands bytes (c ∷ cs) i e h = first_stands bytes cs (i + len_utf8 c) (past_first bytes cs c i e) h.1

pub stands_there : (bytes : List ℕ) (mark : yaml_mark_t) → IsAt bytes mark → Stands bytes mark.index (get_or (chars (drop mark.index bytes)) 0 0)
stands_there bytes mark h = first_stands bytes (chars (drop mark.index bytes)) mark.index (sym h.rest.spelled) h.rest.each

stands_next : (bytes : List ℕ) (mark : yaml_mark_t) → IsAt bytes mark → Stands bytes (mark.index + len_utf8 (get_or (chars (drop mark.index bytes)) 0 0)) (get_or (chars (drop mark.index bytes)) 1 0)
stands_next bytes mark h = second_stands bytes (chars (drop mark.index bytes)) mark.index (sym h.rest.spelled) h.rest.each

-- What a move to a new mark gives: it is in the text, n characters further.
pub record Moves (bytes : List ℕ) (old new : yaml_mark_t) (n : ℕ) : Type 0 where
  pub is_at : IsAt bytes new
  pub goes : at_of bytes new ≡ past n (at_of bytes old)

abbrev moved : yaml_mark_t → ℕ → ℕ → ℕ → yaml_mark_t
moved mark w line column = record { index = mark.index + w; line = line; column = column }

-- over the characters cs, with the count of breaks and the column after them
moves : (bytes : List ℕ) (mark : yaml_mark_t) (cs rest : List ℕ) (w n line col : ℕ) → IsAt bytes mark → chars (drop mark.index bytes) ≡ cs ++ rest → w ≡ length (utf8 cs) → n ≡ length cs
    → line ≡ break_count (chars (take mark.index bytes) ++ cs) → col ≡ column (chars (take mark.index bytes) ++ cs) → cuts_break (chars (take mark.index bytes) ++ cs) rest ≡ false
    → Moves bytes mark (moved mark w line col) n
moves bytes mark cs rest w n line col h e w-is n-is line-is col-is whole =
    let g = goes bytes mark.index w cs rest h.within h.front h.rest e w-is in
    let t : take n (chars (drop mark.index bytes)) ≡ cs = ap (λ (x : List ℕ). take n x) e ∙ take_at cs rest n (sym n-is) in
    let d : drop n (chars (drop mark.index bytes)) ≡ rest = ap (λ (x : List ℕ). drop n x) e ∙ drop_at cs rest n (sym n-is) in
    record {
      is_at = record {
        within = g.within;
        front = g.front;
        rest = g.rest_is;
        line = line-is ∙ ap break_count (sym g.before);
        column = col-is ∙ ap column (sym g.before);
        whole = rw (g.before, g.left) whole;
      };
      goes = same_at _ _ _ _ (g.before ∙ ap (λ (x : List ℕ). chars (take mark.index bytes) ++ x) (sym t)) (g.left ∙ sym d);
    }

-- the width of the first character
front_width : (bytes : List ℕ) (i c : ℕ) (cs : List ℕ) → IsText (drop i bytes) → chars (drop i bytes) ≡ c ∷ cs → width_of (get_or bytes i 0) ≡ len_utf8 c
front_width bytes i c cs t e =
    let each : AreChars (c ∷ cs) = subst AreChars e t.each in
    let b : drop i bytes ≡ encode c ++ utf8 cs = sym t.spelled ∙ ap utf8 e in
    let r = char_range c each.0 in
    let first : get_or (drop i bytes) 0 0 ≡ get_or bytes i 0 = get_or-drop i bytes 0 0 ∙ ap (λ n. get_or bytes n 0) (add-zero i) in
    let s = stands c (utf8 cs) (omega (arith, r.1)) in
    ap width_of (sym first ∙ ap (λ (x : List ℕ). get_or x 0 0) b) ∙ s.width

length-utf8-one : (c : ℕ) → length (utf8 (c ∷ [])) ≡ len_utf8 c
length-utf8-one c = ap length (append-nil (encode c)) ∙ length-encode c

break_not_cr : (c : ℕ) → is_break c ≡ false → (c == 13) ≡ false
break_not_cr c h = grind (arith, nat_tests)

skips : (bytes : List ℕ) (mark : yaml_mark_t) (left : List ℕ) → IsAt bytes mark → chars (drop mark.index bytes) ≡ left → 0 < length left → is_break (get_or left 0 0) ≡ false
    → Moves bytes mark (moved mark (width_of (get_or bytes mark.index 0)) mark.line (mark.column + 1)) 1
skips bytes mark [] h e some other = absurd (omega arith)
skips bytes mark (c ∷ cs) h e some other =
    let before = chars (take mark.index bytes) in
    let here : cuts_break before (c ∷ []) ≡ false = ap (λ (x : List ℕ). is_crlf (get_or before (length before - 1) 0) (get_or x 0 0)) (sym e) ∙ h.whole in
    let line : break_count (before ++ c ∷ []) ≡ break_count before = breaks-append before (c ∷ []) here ∙ ap (λ b. break_count before + one_more_if b 0) (ends_last c ∙ other) ∙ add-zero (break_count before) in
    let col : column (before ++ c ∷ []) ≡ suc (column before) = column-push before c ∙ ap (λ b. cond b 0 (suc (column before))) other in
    let end : cuts_break (before ++ c ∷ []) cs ≡ false = rw (last_push before c, break_not_cr c other) refl in
    moves bytes mark (c ∷ []) cs _ 1 _ _ h e (front_width bytes mark.index c cs h.rest e ∙ sym (length-utf8-one c)) refl (h.line ∙ sym line) (omega (arith, h.column, col)) end

pub skip_moves : (bytes : List ℕ) (mark : yaml_mark_t) → IsAt bytes mark → 0 < length (chars (drop mark.index bytes)) → is_break (get_or (chars (drop mark.index bytes)) 0 0) ≡ false
    → Moves bytes mark (moved mark (width_of (get_or bytes mark.index 0)) mark.line (mark.column + 1)) 1
skip_moves bytes mark h = skips bytes mark (chars (drop mark.index bytes)) h refl

-- past one break
line_of_one : (bytes : List ℕ) (mark : yaml_mark_t) (c : ℕ) (cs : List ℕ) → IsAt bytes mark → chars (drop mark.index bytes) ≡ c ∷ cs → is_break c ≡ true → is_crlf c (get_or cs 0 0) ≡ false
    → Moves bytes mark (moved mark (width_of (get_or bytes mark.index 0)) (mark.line + 1) 0) 1
line_of_one bytes mark c cs h e is single =
    let before = chars (take mark.index bytes) in
    let here : cuts_break before (c ∷ []) ≡ false = ap (λ (x : List ℕ). is_crlf (get_or before (length before - 1) 0) (get_or x 0 0)) (sym e) ∙ h.whole in
    let line : break_count (before ++ c ∷ []) ≡ break_count before + 1 = breaks-append before (c ∷ []) here ∙ ap (λ b. break_count before + one_more_if b 0) (ends_last c ∙ is) in
    let col : column (before ++ c ∷ []) ≡ 0 = column-push before c ∙ ap (λ b. cond b 0 (suc (column before))) is in
    let end : cuts_break (before ++ c ∷ []) cs ≡ false = rw (last_push before c) single in
    moves bytes mark (c ∷ []) cs _ 1 _ _ h e (front_width bytes mark.index c cs h.rest e ∙ sym (length-utf8-one c)) refl (omega (arith, h.line, line)) (sym col) end

pub two_bytes : 2 ≡ length (utf8 (13 ∷ 10 ∷ []))
unfolding encode
two_bytes = refl

line_of_two : (bytes : List ℕ) (mark : yaml_mark_t) (cs : List ℕ) → IsAt bytes mark → chars (drop mark.index bytes) ≡ 13 ∷ 10 ∷ cs
    → Moves bytes mark (moved mark 2 (mark.line + 1) 0) 2
line_of_two bytes mark cs h e =
    let before = chars (take mark.index bytes) in
    let both : List ℕ = 13 ∷ 10 ∷ [] in
    let here : cuts_break before both ≡ false = ap (λ (x : List ℕ). is_crlf (get_or before (length before - 1) 0) (get_or x 0 0)) (sym e) ∙ h.whole in
    let line : break_count (before ++ both) ≡ break_count before + 1 = breaks-append before both here in
    let regrouped : before ++ both ≡ (before ++ 13 ∷ []) ++ 10 ∷ [] = sym (append_assoc before (13 ∷ []) (10 ∷ [])) in
    let col : column (before ++ both) ≡ 0 = ap column regrouped ∙ column-push (before ++ 13 ∷ []) 10 in
    let end : cuts_break (before ++ both) cs ≡ false = ap (λ (x : List ℕ). cuts_break x cs) regrouped ∙ rw (last_push (before ++ 13 ∷ []) 10) refl in
    moves bytes mark both cs 2 2 _ _ h e two_bytes refl (omega (arith, h.line, line)) (sym col) end

-- the two characters of CR LF
crlf_is : (c : ℕ) (cs : List ℕ) → is_crlf c (get_or cs 0 0) ≡ true → c ∷ cs ≡ 13 ∷ 10 ∷ drop 1 cs
crlf_is c [] h = absurd (let p = and_parts (c == 13) (0 == 10) h in false≢true p.1)
crlf_is c (d ∷ cs) h = let p = and_parts (c == 13) (d == 10) h in λ k. eqb-true c 13 p.0 k ∷ eqb-true d 10 p.1 k ∷ cs

lines_by : (bytes : List ℕ) (mark : yaml_mark_t) (c : ℕ) (cs : List ℕ) (crlf : Bool) → is_crlf c (get_or cs 0 0) ≡ crlf → IsAt bytes mark → chars (drop mark.index bytes) ≡ c ∷ cs → is_break c ≡ true
    → Moves bytes mark (moved mark (cond (is_crlf c (get_or cs 0 0)) 2 (width_of (get_or bytes mark.index 0))) (mark.line + 1) 0) (first_break_len (c ∷ cs))
lines_by bytes mark c cs true t h e is = rw t (line_of_two bytes mark (drop 1 cs) h (e ∙ crlf_is c cs t))
lines_by bytes mark c cs false t h e is = rw t (line_of_one bytes mark c cs h e is t)

lines : (bytes : List ℕ) (mark : yaml_mark_t) (left : List ℕ) → IsAt bytes mark → chars (drop mark.index bytes) ≡ left → is_break (get_or left 0 0) ≡ true
    → Moves bytes mark (moved mark (cond (is_crlf (get_or left 0 0) (get_or left 1 0)) 2 (width_of (get_or bytes mark.index 0))) (mark.line + 1) 0) (first_break_len left)
lines bytes mark [] h e is = absurd (false≢true is)
lines bytes mark (c ∷ cs) h e is = lines_by bytes mark c cs (is_crlf c (get_or cs 0 0)) refl h e is

pub line_moves : (bytes : List ℕ) (mark : yaml_mark_t) → IsAt bytes mark → is_break (get_or (chars (drop mark.index bytes)) 0 0) ≡ true
    → Moves bytes mark (moved mark (cond (is_crlf (get_or (chars (drop mark.index bytes)) 0 0) (get_or (chars (drop mark.index bytes)) 1 0)) 2 (width_of (get_or bytes mark.index 0))) (mark.line + 1) 0) (first_break_len (chars (drop mark.index bytes)))
line_moves bytes mark h = lines bytes mark (chars (drop mark.index bytes)) h refl

-- ---- the front of a text, and bounds

pub front_of : (bytes : List ℕ) → IsText bytes → IsAt bytes (record { index = 0; line = 0; column = 0 })
unfolding chars column
front_of bytes t = record { within = omega arith; front = record { each = tt; spelled = refl }; rest = t; line = refl; column = refl; whole = refl }

breaks-le : (cs : List ℕ) → break_count cs ≤ length cs
breaks-le [] = omega arith
breaks-le (c ∷ cs) = elim (cases_Bool (ends_break c cs)) [ inl e ↦ rw e (omega (arith, breaks-le cs)) | inr e ↦ rw e (omega (arith, breaks-le cs)) ]

column-le : (cs : List ℕ) → column cs ≤ length cs
unfolding column
column-le cs = omega (arith, prefix_len-le-length (λ c. not (is_break c)) (reverse cs), length-reverse cs)

pub at_bounds : (bytes : List ℕ) (mark : yaml_mark_t) → IsAt bytes mark → (mark.line ≤ mark.index) × (mark.column ≤ mark.index)
at_bounds bytes mark h =
    let before = chars (take mark.index bytes) in
    let n : length before ≤ mark.index = omega (arith, length-le-encodes before, ap length h.front.spelled, length-take mark.index bytes) in
    (omega (arith, h.line, breaks-le before), omega (arith, h.column, column-le before))

pub mark_is : (bytes : List ℕ) (mark : yaml_mark_t) → IsAt bytes mark → mark ≡ mark_of (chars (take mark.index bytes))
mark_is bytes mark h =
    let i : mark.index ≡ length (utf8 (chars (take mark.index bytes))) = omega (arith, ap length h.front.spelled, length-take mark.index bytes, h.within) in
    λ k. record { index = i k; line = h.line k; column = h.column k }

-- ---- the same for a place that is seen as a value

-- The new mark is in the text, at this place.
pub record Lands (bytes : List ℕ) (mark : yaml_mark_t) (there : At) : Type 0 where
  pub is_at : IsAt bytes mark
  pub place : at_of bytes mark ≡ there

landed : (bytes : List ℕ) (old new : yaml_mark_t) (n : ℕ) (at : At) → at_of bytes old ≡ at → Moves bytes old new n → Lands bytes new (past n at)
landed bytes old new n at e m = record { is_at = m.is_at; place = m.goes ∙ ap (past n) e }

pub skip_lands : (bytes : List ℕ) (mark : yaml_mark_t) (at : At) (w : ℕ) → IsAt bytes mark → at_of bytes mark ≡ at → 0 < length at.left → is_break (get_or at.left 0 0) ≡ false → w ≡ width_of (get_or bytes mark.index 0)
    → Lands bytes (moved mark w mark.line (mark.column + 1)) (past 1 at)
skip_lands bytes mark at w h e some other w-is =
    let some_there = subst (λ (a : At). 0 < length a.left) (sym e) some in
    let other_there = subst (λ (a : At). is_break (get_or a.left 0 0) ≡ false) (sym e) other in
    rw w-is (landed bytes mark _ 1 at e (skip_moves bytes mark h some_there other_there))

pub line_lands : (bytes : List ℕ) (mark : yaml_mark_t) (at : At) (w : ℕ) → IsAt bytes mark → at_of bytes mark ≡ at → is_break (get_or at.left 0 0) ≡ true
    → w ≡ cond (is_crlf_at bytes mark.index) 2 (width_of (get_or bytes mark.index 0)) → Lands bytes (moved mark w (mark.line + 1) 0) (past (first_break_len at.left) at)
line_lands bytes mark at w h e is w-is =
    let there = at_of bytes mark in
    let goal : At → Type 0 = λ a. is_break (get_or a.left 0 0) ≡ true → Lands bytes (moved mark w (mark.line + 1) 0) (past (first_break_len a.left) a) in
    let w-there = w-is ∙ ap (λ b. cond b 2 (width_of (get_or bytes mark.index 0))) (crlf_law bytes mark.index _ _ (stands_there bytes mark h) (stands_next bytes mark h)) in
    subst goal e (λ x. rw w-there (landed bytes mark _ (first_break_len there.left) there refl (line_moves bytes mark h x))) is

end_by : (bytes : List ℕ) (mark : yaml_mark_t) (left : List ℕ) → IsAt bytes mark → chars (drop mark.index bytes) ≡ left → leb (length bytes) mark.index ≡ is_z (get_or left 0 0)
end_by bytes mark [] h e =
    let none : length (drop mark.index bytes) ≡ 0 = ap length (sym h.rest.spelled ∙ ap utf8 e) in
    le-leb _ _ (omega (arith, length-drop mark.index bytes))
end_by bytes mark (c ∷ cs) h e =
    let r = char_range c (subst AreChars e h.rest.each).0 in
    let some : 0 < length (drop mark.index bytes) = omega (arith, ap length (sym h.rest.spelled ∙ ap utf8 e), length-append (encode c) (utf8 cs), length-encode c, len_utf8_bounds c) in
    lt-leb _ _ (omega (arith, length-drop mark.index bytes)) ∙ sym (ne_eqb c 0 (λ z. omega (arith, r.0)))

pub end_there : (bytes : List ℕ) (mark : yaml_mark_t) (at : At) → IsAt bytes mark → at_of bytes mark ≡ at → leb (length bytes) mark.index ≡ is_z (get_or at.left 0 0)
end_there bytes mark at h e = end_by bytes mark (chars (drop mark.index bytes)) h refl ∙ ap (λ (a : At). is_z (get_or a.left 0 0)) e

pub front_is_of : (bytes cs : List ℕ) → bytes ≡ utf8 cs → AreChars cs → Lands bytes (record { index = 0; line = 0; column = 0 }) (record { before = []; left = cs })
unfolding chars
front_is_of bytes cs e each =
    let t : IsText bytes = subst IsText (sym e) (IsText-utf8 cs each) in
    record { is_at = front_of bytes t; place = same_at [] [] (chars bytes) cs refl (ap chars e ∙ chars-utf8 cs each) }

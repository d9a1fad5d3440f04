-- A run within a line, without the blanks at its end.
use Rattle.std.proofs.Common.{◌≡◌, ℕ, zero, suc, ◌+◌, ◌-◌, ◌<◌, ◌≤◌, true, false, List, [], ◌∷◌, ◌++◌, length, get_or, take, drop, refl, sym, ap, ◌∙◌, subst, arith}
use Rattle.std.specs.List.{prefix_len, list_all, count_by}
use Rattle.std.specs.Str.{chars}
use Rattle.std.proofs.lemmas.Bool.{and_parts}
use Rattle.std.proofs.lemmas.Bool.Decides.{nat_tests}
use Rattle.std.proofs.lemmas.List.{take-append-drop, take_at, drop_at, length-append, take-take}
use Rattle.std.proofs.lemmas.List.Sums.{prefix_len-le-length, prefix_len_passes}
use Rattle.std.proofs.lemmas.Str.{encode_ascii, encodes-append, length-encode, len_utf8_bounds}
use Rattle.std.specs.Char.{len_utf8}
use lib.Utf8.{encode}
use Rattle.yaml_text.specs.declared.types.yaml_mark_t.{yaml_mark_t}
use Rattle.yaml_text.specs.Chars.{utf8}
use Rattle.yaml_text.specs.TextBytes.{AreChars, IsText}
use Rattle.yaml_text.specs.Classes.{is_blank, is_break}
use Rattle.yaml_text.proofs.Decodings.DecodeFronts.{chars-utf8, IsText-utf8}
use Rattle.yaml_text.proofs.Marks.MarkMoves.{AreChars-parts}
use Rattle.yaml_lexeme.specs.declared.runs.class_t.{class_t}
use Rattle.yaml_lexeme.specs.declared.runs.class_t.TheVariants.{BLANK_OR_BREAK}
use Rattle.yaml_lexeme.specs.Place.{Place, skip}
use Rattle.yaml_lexeme.specs.inside.Moves.{skip_from, mark_after}
use Rattle.yaml_lexeme.specs.inside.Runs.{class_test, is_line, begins, trim, Clear, Stands}
use Rattle.yaml_lexeme.proofs.ManyBytes.QuietRuns.{along, Over, count_chars}
use Rattle.yaml_lexeme.proofs.ManyBytes.ClearRuns.{over_bytes}
use Rattle.yaml_lexeme.proofs.ManyBytes.TrimmedLists.{trimmed, trim_bytes}

-- the characters of a class of a line are no breaks
in_line : (class : class_t) (c : ℕ) → is_line class ≡ true → class_test class c ≡ true → is_break c ≡ false
in_line BLANK_OR_BREAK c l h = absurd cc
in_line class c l h = grind (arith, nat_tests)

-- n characters of a line
line_from : (n : ℕ) (m : yaml_mark_t) (cs : List ℕ) → n ≤ length cs → ((i : ℕ) → i < n → is_break (get_or cs i 0) ≡ false)
    → let q : Place = record { mark = along m (length (utf8 (take n cs))) n; rest = drop n cs } in skip_from n m cs ≡ q
line_from zero m cs l h =
    let i : m.index + 0 ≡ m.index = omega arith in
    let j : m.column + 0 ≡ m.column = omega arith in
    λ t. record { mark = record { index = sym i t; line = m.line; column = sym j t }; rest = cs }
line_from (suc n) m [] l h = absurd (omega arith)
line_from (suc n) m (c ∷ cs) l h =
    let none : is_break c ≡ false = h 0 (omega arith) in
    let one : mark_after m c (get_or cs 0 0) ≡ along m (len_utf8 c) 1 = rw none refl in
    let more = line_from n (along m (len_utf8 c) 1) cs (omega arith) (λ i l. h (suc i) (omega arith)) in
    let i : m.index + len_utf8 c + length (utf8 (take n cs)) ≡ m.index + length (utf8 (take (suc n) (c ∷ cs))) = omega (arith, length-append (encode c) (utf8 (take n cs)), length-encode c) in
    let j : m.column + 1 + n ≡ m.column + suc n = omega arith in
    ap (λ (x : yaml_mark_t). skip_from n x cs) one ∙ more ∙ (λ t. record { mark = record { index = i t; line = m.line; column = j t }; rest = drop n cs })

blank_bytes : (xs : List ℕ) → list_all is_blank xs ≡ true → length (utf8 xs) ≡ length xs
blank_bytes [] h = refl
blank_bytes (x ∷ xs) h =
    let both = and_parts (is_blank x) (list_all is_blank xs) h in
    let low : x < 128 = grind (arith, nat_tests, both.0) in
    omega (arith, length-append (encode x) (utf8 xs), ap length (encode_ascii x low), blank_bytes xs both.1)

longer : (cs : List ℕ) → length cs ≤ length (utf8 cs)
longer [] = omega arith
longer (c ∷ cs) = omega (arith, longer cs, length-append (encode c) (utf8 cs), length-encode c, len_utf8_bounds c)

-- The place after what is kept of n bytes of k characters, of which none needs a closer look.
pub record Back (class : class_t) (m : yaml_mark_t) (bytes : List ℕ) (p : Place) (n k kept : ℕ) : Type 0 where
  pub within : kept ≤ n
  pub inside : kept ≤ length bytes
  pub room : n - kept ≤ k
  pub text : IsText (drop kept bytes)
  pub sums : m.line + m.column ≤ m.index → m.line + (m.column + (k - (n - kept))) ≤ m.index + kept
  pub place : let q : Place = record { mark = record { index = m.index + kept; line = m.line; column = m.column + (k - (n - kept)) }; rest = chars (drop kept bytes) } in Stands (class_test class) p q

back_from : (class : class_t) (m : yaml_mark_t) (bytes : List ℕ) (n k kept : ℕ) → is_line class ≡ true → IsText bytes → let p : Place = record { mark = m; rest = chars bytes } in
    Clear class bytes n → k ≡ count_by begins (take n bytes) → kept ≡ length (trim (take n bytes)) → Back class m bytes p n k kept
unfolding skip
back_from class m bytes n k kept line t clear k-is kept-is =
    let cs = chars bytes in
    let test = class_test class in
    let o : Over class m cs n = over_bytes class m bytes n line t clear in
    let whole = o.front in
    let j = length whole in
    let tk : take n bytes ≡ utf8 whole = ap (λ (x : List ℕ). take n x) (sym t.spelled ∙ ap utf8 o.parts ∙ encodes-append whole o.left) ∙ take_at (utf8 whole) (utf8 o.left) n o.bytes in
    let tj : take j cs ≡ whole = ap (λ (x : List ℕ). take j x) o.parts ∙ take_at whole o.left j refl in
    let count : k ≡ j = k-is ∙ ap (λ (x : List ℕ). count_by begins x) tk ∙ count_chars whole in
    let r = trimmed whole in
    let front = trim whole in
    let f = length front in
    let size-kept : kept ≡ length (utf8 front) = kept-is ∙ ap (λ (x : List ℕ). length (trim x)) tk ∙ ap length (trim_bytes whole) in
    let sum : f + length r.blanks ≡ j = omega (arith, ap length r.parts, length-append front r.blanks) in
    let size : n ≡ kept + length r.blanks = omega (arith, o.bytes, ap length (ap utf8 r.parts ∙ encodes-append front r.blanks), length-append (utf8 front) (utf8 r.blanks), size-kept, blank_bytes r.blanks r.each) in
    let low : j ≤ prefix_len test cs = omega (arith, o.goes) in
    let within : prefix_len test cs ≤ length cs = prefix_len-le-length test cs in
    let same : take f cs ≡ front = sym (take-take f j cs (omega arith)) ∙ ap (λ (x : List ℕ). take f x) (tj ∙ r.parts) ∙ take_at front r.blanks f refl in
    let held : kept ≡ length (utf8 (take f cs)) = size-kept ∙ ap (λ (x : List ℕ). length (utf8 x)) (sym same) in
    let clean : (i : ℕ) → i < f → is_break (get_or cs i 0) ≡ false = λ i l. in_line class (get_or cs i 0) line (prefix_len_passes test cs i 0 (omega arith)) in
    let near = line_from f m cs (omega arith) clean in
    let b : bytes ≡ utf8 (take f cs) ++ utf8 (drop f cs) = sym t.spelled ∙ ap utf8 (sym (take-append-drop f cs)) ∙ encodes-append (take f cs) (drop f cs) in
    let each = AreChars-parts (take f cs) (drop f cs) (subst AreChars (sym (take-append-drop f cs)) t.each) in
    let dr : drop kept bytes ≡ utf8 (drop f cs) = ap (λ (x : List ℕ). drop kept x) b ∙ drop_at (utf8 (take f cs)) (utf8 (drop f cs)) kept (sym held) in
    let left : chars (drop kept bytes) ≡ drop f cs = ap chars dr ∙ chars-utf8 (drop f cs) each.1 in
    let index : m.index + kept ≡ m.index + length (utf8 (take f cs)) = omega (arith, held) in
    let column : m.column + (k - (n - kept)) ≡ m.column + f = omega (arith, count, size, sum) in
    let long : f ≤ kept = omega (arith, longer front, size-kept) in
    let end : f ≡ length (trim (take j cs)) = ap (λ (x : List ℕ). length (trim x)) (sym tj) in
    record {
      within = omega (arith, size);
      inside = omega (arith, ap length b, length-append (utf8 (take f cs)) (utf8 (drop f cs)), held);
      room = omega (arith, count, size, sum);
      text = subst IsText (sym dr) (IsText-utf8 (drop f cs) each.1);
      sums = λ h. omega (arith, column, long);
      place = (j, (low, (λ i. record { mark = record { index = index i; line = m.line; column = column i }; rest = left i }) ∙ sym near ∙ ap (λ i. skip_from i m cs) end));
    }

pub backs : (class : class_t) (m : yaml_mark_t) (bytes : List ℕ) (p : Place) (n k kept : ℕ) → is_line class ≡ true → IsText bytes → (let q : Place = record { mark = m; rest = chars bytes } in q ≡ p)
    → Clear class bytes n → k ≡ count_by begins (take n bytes) → kept ≡ length (trim (take n bytes)) → Back class m bytes p n k kept
backs class m bytes p n k kept line t view clear k-is kept-is = subst (λ (x : Place). Back class m bytes x n k kept) view (back_from class m bytes n k kept line t clear k-is kept-is)

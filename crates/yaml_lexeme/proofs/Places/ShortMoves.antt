-- A cursor that moves on over a short piece moves as a place does.
use Rattle.std.proofs.Common.{true, false, not, Bool, ◌≡◌, ℕ, ◌-◌, ◌<◌, ◌≤◌, List, length, get_or, take, drop, refl, sym, ap, ◌∙◌, subst, arith, add-zero}
use Rattle.std.specs.List.{prefix_len, count_by}
use Rattle.std.specs.Str.{chars}
use Rattle.std.proofs.lemmas.Bool.Decides.{nat_tests}
use Rattle.std.proofs.lemmas.List.{get_or-drop, length-drop}
use Rattle.std.proofs.lemmas.List.Sums.{prefix_len-le-length, prefix_len_is, prefix_len_passes}
use Rattle.yaml_text.specs.declared.types.yaml_mark_t.{yaml_mark_t}
use Rattle.yaml_text.specs.Chars.{utf8}
use Rattle.yaml_text.specs.TextBytes.{IsText}
use Rattle.yaml_lexeme.specs.Place.{Place, first, run, after_run}
use Rattle.yaml_lexeme.specs.declared.runs.class_t.TheVariants.{DOUBLE}
use Rattle.yaml_lexeme.specs.inside.Runs.{class_test, is_quiet, begins}
use Rattle.yaml_lexeme.specs.inside.ShortRuns.{is_mark, ends, Short, ShortRun}
use Rattle.yaml_lexeme.proofs.ManyBytes.ClearRuns.{quiet_is_clear}
use Rattle.yaml_lexeme.proofs.ManyBytes.QuietRuns.{along, counted_all}
use Rattle.yaml_lexeme.proofs.Places.CursorMoves.{quiet_moves, run_bytes}
use Rattle.yaml_lexeme.proofs.Places.FirstCharacters.{ascii_head}
use Rattle.yaml_lexeme.proofs.Places.PlaceMoves.{after_none}

quiet_byte : (b : ℕ) → not (ends b) ≡ true → is_quiet DOUBLE b ≡ true
quiet_byte b h = grind (arith, nat_tests)

begins_byte : (b : ℕ) → not (ends b) ≡ true → begins b ≡ true
begins_byte b h = grind (arith, nat_tests)

mark_stops : (b : ℕ) → is_mark b ≡ true → is_quiet DOUBLE b ≡ false
mark_stops b h = grind (arith, nat_tests)

mark_ends : (b : ℕ) → is_mark b ≡ true → class_test DOUBLE b ≡ false
mark_ends b h = grind (arith, nat_tests)

mark_low : (b : ℕ) → is_mark b ≡ true → b < 128
mark_low b h = grind (arith, nat_tests)

pub record ShortMove (m : yaml_mark_t) (bytes : List ℕ) (n : ℕ) : Type 0 where
  pub within : n ≤ length bytes
  pub text : IsText (drop n bytes)
  pub run : let p : Place = record { mark = m; rest = chars bytes } in let q : Place = record { mark = along m n n; rest = chars (drop n bytes) } in ShortRun p q n

pub short_moves : (m : yaml_mark_t) (bytes : List ℕ) (n : ℕ) → IsText bytes → Short bytes n → ShortMove m bytes n
short_moves m bytes n t short =
    let test = class_test DOUBLE in
    let some : ℕ → Bool = λ b. not (ends b) in
    let n-is = short.0 in
    let within : n ≤ length bytes = omega (arith, n-is, prefix_len-le-length some bytes) in
    let quiet : n ≡ prefix_len (is_quiet DOUBLE) bytes = sym (prefix_len_is (is_quiet DOUBLE) bytes n 0 within
    (λ k l. quiet_byte (get_or bytes k 0) (prefix_len_passes some bytes k 0 (omega (arith, l, n-is))))
    (λ l. mark_stops (get_or bytes n 0) short.1)) in
    let count : n ≡ count_by begins (take n bytes) = n-is ∙ sym (counted_all begins some begins_byte bytes) ∙ ap (λ k. count_by begins (take k bytes)) (sym n-is) in
    let move = quiet_moves DOUBLE m bytes n n t (λ line. quiet_is_clear DOUBLE bytes n refl quiet) (λ other. quiet) count in
    let p : Place = record { mark = m; rest = chars bytes } in
    let q : Place = record { mark = along m n n; rest = chars (drop n bytes) } in
    let byte : get_or (drop n bytes) 0 0 ≡ get_or bytes n 0 = get_or-drop n bytes 0 0 ∙ ap (λ i. get_or bytes i 0) (add-zero n) in
    let low : get_or (drop n bytes) 0 0 < 128 = omega (arith, byte, mark_low (get_or bytes n 0) short.1) in
    let here : first q ≡ get_or bytes n 0 = sym (ascii_head (drop n bytes) move.text low) ∙ byte in
    let mark : is_mark (first q) ≡ true = ap is_mark here ∙ short.1 in
    let end : q ≡ after_run test p = sym (after_none test q (mark_ends (first q) mark)) ∙ move.goes in
    let taken = run_bytes test p q bytes (drop n bytes) end (sym t.spelled) (sym move.text.spelled) in
    let size : length bytes - length (drop n bytes) ≡ n = omega (arith, length-drop n bytes) in
    let value : utf8 (run test p) ≡ take n (utf8 p.rest) = sym taken.1 ∙ ap (λ k. take k bytes) size ∙ ap (take n) (sym t.spelled) in
    record { within = within; text = move.text; run = (end, (value, mark)) }

-- the same at a place of which this is the view
pub short_moves_at : (m : yaml_mark_t) (bytes : List ℕ) (n : ℕ) (p : Place) → IsText bytes → (let q : Place = record { mark = m; rest = chars bytes } in q ≡ p) → Short (utf8 p.rest) n → ShortMove m bytes n
short_moves_at m bytes n p t view short =
    let same : utf8 p.rest ≡ bytes = ap (λ (x : Place). utf8 x.rest) (sym view) ∙ t.spelled in
    short_moves m bytes n t (subst (λ (x : List ℕ). Short x n) same short)

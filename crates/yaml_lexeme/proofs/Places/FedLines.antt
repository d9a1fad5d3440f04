-- A line that ends with a line feed is taken without a count of its characters.
use Rattle.std.proofs.Common.{◌≡◌, ℕ, ◌+◌, ◌-◌, ◌<◌, ◌≤◌, true, false, ◌==◌, List, length, get_or, take, drop, refl, sym, ap, ◌∙◌, subst, arith, inl, inr}
use Rattle.std.specs.List.{count_by}
use Rattle.std.specs.Str.{chars}
use Rattle.std.proofs.lemmas.Bool.{cases_Bool, cases_lt}
use Rattle.std.proofs.lemmas.Bool.Decides.{nat_tests}
use Rattle.std.proofs.lemmas.List.{length-drop, get_or_past, get_or-drop, drop-drop}
use Rattle.yaml_text.specs.declared.types.yaml_mark_t.{yaml_mark_t}
use Rattle.yaml_text.specs.Chars.{utf8}
use Rattle.yaml_text.specs.Classes.{is_crlf}
use Rattle.yaml_text.specs.TextBytes.{IsText}
use Rattle.yaml_lexeme.specs.Classes.{is_in_line}
use Rattle.yaml_lexeme.specs.Place.{Place, first, peek, skip, after_run, break_len}
use Rattle.yaml_lexeme.specs.declared.runs.class_t.TheVariants.{IN_LINE}
use Rattle.yaml_lexeme.specs.inside.Moves.{is_feed, feed_width, FedLine}
use Rattle.yaml_lexeme.specs.inside.Runs.{begins, Clear}
use Rattle.yaml_lexeme.proofs.ManyBytes.QuietRuns.{along}
use Rattle.yaml_lexeme.proofs.Places.CursorMoves.{quiet_moves, run_bytes, ascii_here, line_feed_moves, return_moves}
use Rattle.yaml_lexeme.proofs.Places.FirstCharacters.{ascii_head, past_ascii}
use Rattle.yaml_lexeme.proofs.Places.PlaceMoves.{after_none, skip_skip}

-- the place after a line feed that takes w bytes
abbrev fed_place : yaml_mark_t → ℕ → List ℕ → Place
fed_place m w left = record { mark = record { index = m.index + w; line = m.line + 1; column = 0 }; rest = chars (drop w left) }

-- a line feed that is first of these bytes, alone or after a carriage return, and the place after it
record FeedMove (m : yaml_mark_t) (left : List ℕ) (w : ℕ) : Type 0 where
  some : w ≤ length left
  text : IsText (drop w left)
  stops : is_in_line (first (record { mark = m; rest = chars left })) ≡ false
  fed : let p : Place = record { mark = m; rest = chars left } in is_feed (first p) (peek p 1) ≡ true
  place : let p : Place = record { mark = m; rest = chars left } in fed_place m w left ≡ skip (break_len p) p

there : (xs : List ℕ) (k : ℕ) → 0 < get_or xs k 0 → k < length xs
there xs k h = elim (cases_lt k (length xs)) [ inl within ↦ within | inr past ↦ absurd (omega (arith, get_or_past xs k 0 past)) ]

feed_alone : (m : yaml_mark_t) (left : List ℕ) → IsText left → get_or left 0 0 ≡ 10 → FeedMove m left 1
feed_alone m left t e =
    let p : Place = record { mark = m; rest = chars left } in
    let some = there left 0 (omega arith) in
    let here : first p ≡ 10 = sym (ascii_here m left p t refl (omega arith)) ∙ e in
    let move = line_feed_moves m left t some e in
    let one : break_len p ≡ 1 = rw here refl in
    record {
      some = some;
      text = move.text;
      stops = rw here refl;
      fed = rw here refl;
      place = move.place ∙ ap (λ k. skip k p) (sym one);
    }

feed_after_return : (m : yaml_mark_t) (left : List ℕ) → IsText left → get_or left 0 0 ≡ 13 → get_or left 1 0 ≡ 10 → FeedMove m left 2
feed_after_return m left t e f =
    let p : Place = record { mark = m; rest = chars left } in
    let some = there left 1 (omega arith) in
    let here : first p ≡ 13 = sym (ascii_here m left p t refl (omega arith)) ∙ e in
    let past = past_ascii left t (omega (arith, some)) (omega arith) in
    let feed : get_or (drop 1 left) 0 0 ≡ 10 = get_or-drop 1 left 0 0 ∙ f in
    let next : peek p 1 ≡ 10 = sym (get_or-drop 1 (chars left) 0 0) ∙ ap (λ (x : List ℕ). get_or x 0 0) (sym past.rest) ∙ sym (ascii_head (drop 1 left) past.text (omega (arith, feed))) ∙ feed in
    let back = (return_moves m left p t refl here next).1 in
    let move = line_feed_moves (along m 1 1) (drop 1 left) back.text (omega (arith, some, length-drop 1 left)) feed in
    let two : break_len p ≡ 2 = rw (here, next) refl in
    let both : drop 1 (drop 1 left) ≡ drop 2 left = drop-drop 1 1 left in
    let index : m.index + 2 ≡ m.index + 1 + 1 = omega arith in
    let same : fed_place m 2 left ≡ fed_place (along m 1 1) 1 (drop 1 left) = λ i. record { mark = record { index = index i; line = m.line + 1; column = 0 }; rest = chars (sym both i) } in
    let moved : fed_place (along m 1 1) 1 (drop 1 left) ≡ skip 2 p = move.place ∙ ap (skip 1) back.place ∙ skip_skip 1 1 p in
    record {
      some = some;
      text = subst IsText both move.text;
      stops = rw here refl;
      fed = rw (here, next) refl;
      place = same ∙ moved ∙ ap (λ k. skip k p) (sym two);
    }

is_return : (a b : ℕ) → is_crlf a b ≡ true → (a ≡ 13) × (b ≡ 10)
is_return a b h = (grind (arith, nat_tests), grind (arith, nat_tests))

feed_moves : (m : yaml_mark_t) (left : List ℕ) (w : ℕ) → IsText left → w ≡ feed_width left → 0 < w → FeedMove m left w
feed_moves m left w t w-is some =
    elim (cases_Bool (get_or left 0 0 == 10)) [
      | inl feed ↦
          let one : 1 ≡ w = sym (w-is ∙ rw feed refl) in
          subst (λ k. FeedMove m left k) one (feed_alone m left t (grind (arith, nat_tests)))
      | inr other ↦ elim (cases_Bool (is_crlf (get_or left 0 0) (get_or left 1 0))) [
        | inl both ↦
            let two : 2 ≡ w = sym (w-is ∙ rw (other, both) refl) in
            let r = is_return (get_or left 0 0) (get_or left 1 0) both in
            subst (λ k. FeedMove m left k) two (feed_after_return m left t r.0 r.1)
        | inr none ↦
            let zero : w ≡ 0 = w-is ∙ rw (other, none) refl in
            absurd (omega (arith, zero))
      ]
    ]

-- a line whose first n bytes need no closer look, and the line feed after them
pub record FedMove (m : yaml_mark_t) (bytes : List ℕ) (p : Place) (n w : ℕ) : Type 0 where
  pub within : n + w ≤ length bytes
  pub text : IsText (drop w (drop n bytes))
  pub line : let q : Place = record { mark = record { index = m.index + (n + w); line = m.line + 1; column = 0 }; rest = chars (drop w (drop n bytes)) } in FedLine n p q

pub fed_moves : (m : yaml_mark_t) (bytes : List ℕ) (p : Place) (n w : ℕ) → IsText bytes → (let q : Place = record { mark = m; rest = chars bytes } in q ≡ p) → Clear IN_LINE bytes n → n ≤ length bytes → w ≡ feed_width (drop n bytes) → 0 < w → FedMove m bytes p n w
fed_moves m bytes p n w t view clear within w-is some =
    let k = count_by begins (take n bytes) in
    let left = drop n bytes in
    let quiet = quiet_moves IN_LINE m bytes n k t (λ yes. clear) (λ no. absurd cc) refl in
    let here : Place = record { mark = along m n k; rest = chars left } in
    let move = feed_moves (along m n k) left w quiet.text w-is some in
    let end : here ≡ after_run is_in_line p = sym (after_none is_in_line here move.stops) ∙ quiet.goes ∙ ap (after_run is_in_line) view in
    let whole : bytes ≡ utf8 p.rest = sym t.spelled ∙ ap (λ (x : Place). utf8 x.rest) view in
    let bytes-run = run_bytes is_in_line p here bytes left end whole (sym quiet.text.spelled) in
    let len : length bytes - length left ≡ n = omega (arith, length-drop n bytes, within) in
    let index : m.index + (n + w) ≡ m.index + n + w = omega arith in
    let q : Place = record { mark = record { index = m.index + (n + w); line = m.line + 1; column = 0 }; rest = chars (drop w left) } in
    let same : q ≡ fed_place (along m n k) w left = λ i. record { mark = record { index = index i; line = m.line + 1; column = 0 }; rest = chars (drop w left) } in
    record {
      within = omega (arith, move.some, length-drop n bytes, within);
      text = move.text;
      line = record {
        within = omega (arith, move.some, length-drop n bytes, within, ap length whole);
        text = ap (λ (x : List ℕ). take n x) (sym whole) ∙ ap (λ x. take x bytes) (sym len) ∙ bytes-run.1;
        fed = ap (λ (x : Place). is_feed (first x) (peek x 1)) (sym end) ∙ move.fed;
        end = same ∙ move.place ∙ ap (λ (x : Place). skip (break_len x) x) end;
      };
    }

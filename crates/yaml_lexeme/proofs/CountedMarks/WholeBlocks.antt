-- Literal and folded scalars end, or are refused, at places that are not between CR and LF, and each of their lines takes a character or more.
use Rattle.std.proofs.Common.{◌≡◌, ℕ, ◌<◌, ◌≤◌, Bool, true, false, not, ◌==◌, ◌&&◌, nat_lt, inl, inr, List, map, length, Option, Some, None, Ok, Err, refl, sym, arith}
use Rattle.std.proofs.lemmas.Bool.{cases_Bool, not-false}
use Rattle.std.proofs.lemmas.Bool.Decides.{nat_tests}
use Rattle.yaml_lexeme.proofs.CountedMarks.WholePlaces.{parts, Clear, clear_trans, clear_skip, clear_length, marked_here, clear_run, clear_break, some_whole, sure_in_line}
use Rattle.yaml_lexeme.proofs.Locality.HeaderLocality.{header_like}
use Rattle.yaml_lexeme.proofs.CountedMarks.ClearReads.{from_holds, Clears, ClearsTo, Marks, like_clears, then_clears, then_to, many_clears, line_end_clears}
use Rattle.yaml_lexeme.proofs.Locality.LookaheadLists.{PartClear, advances}
use Rattle.yaml_lexeme.proofs.Parts.HeldReads.{Holds, ok_holds, refuse_holds, if_holds, bind_holds}
use Rattle.yaml_lexeme.proofs.MarkOrder.ReadingAhead.{PartAhead}
use Rattle.yaml_lexeme.proofs.Parts.PartByPart.{IsShorter, Shortens}
use Rattle.yaml_lexeme.proofs.Places.PlaceMoves.{length_skip, break_within, run_nearer, after_none, in_or_break, is_break_len}
use Rattle.yaml_lexeme.specs.Block.{EmptyLine, header_at, indent_len, after_indent, empty_line, next_line}
use Rattle.yaml_lexeme.specs.Block.{is_text, text_line, block_indent, set_indent, block}
use Rattle.yaml_lexeme.specs.Greatest.{greatest}
use Rattle.yaml_lexeme.specs.inside.BlockAhead as ahead
use Rattle.yaml_lexeme.specs.inside.BlockAhead.{Blanks, blank_lines, Line, line_at, is_indenting}
use Rattle.yaml_lexeme.specs.Classes.{is_in_line}
use Rattle.yaml_lexeme.specs.Lexeme.{Scalar}
use Rattle.yaml_lexeme.specs.Place.{Place, first, skip, run_len, after_run, break_len}
use Rattle.yaml_lexeme.specs.Reading.{Found, Part, many}
use Rattle.yaml_text.specs.Classes.{is_z}

indent_small : (limit : Option ℕ) (p : Place) → indent_len limit p ≤ run_len (λ c. c == 0x20) p
indent_small None p = omega arith
indent_small (Some n) p = omega arith

pub indent_whole : (limit : Option ℕ) (p : Place) → parts p.rest (indent_len limit p) ≡ false
indent_whole limit p = some_whole (λ c. c == 0x20) refl (indent_len limit p) p.rest (indent_small limit p)

indent_clears : (limit : Option ℕ) (p : Place) → ClearsTo p (after_indent limit p)
unfolding after_indent
indent_clears limit p =
    let q = skip (indent_len limit p) p in
    let a : Clear p q = clear_skip (indent_len limit p) p (indent_whole limit p) in
    if_holds (is_indenting 0x09 limit q) (λ e. refuse_holds a) (λ e. ok_holds a)

-- a clear place, a character or more ahead
abbrev pub Nearer : Place → Place → Type 0
Nearer p q = Clear p q × (length q.rest < length p.rest)

nearer_after : {p q r : Place} → Clear p q → Nearer q r → Nearer p r
nearer_after {p} {q} {r} a n = (clear_trans a n.0, omega (arith, clear_length a, n.1))

nearer_then : {p q r : Place} → Nearer p q → Clear q r → Nearer p r
nearer_then {p} {q} {r} n a = (clear_trans n.0 a, omega (arith, n.1, clear_length a))

abbrev pub PartNearer : {A : Type 0} → Place → Option (Found A) → Type 0
PartNearer p None = Unit {0}
PartNearer p (Some f) = Nearer p f.end

nearer_clear : {A : Type 0} (p : Place) (r : Part A) → Holds (PartNearer p) (Clear p) r → PartClear p r
nearer_clear p (Ok (Some f)) h = h.held.0
nearer_clear p (Ok None) h = tt
nearer_clear p (Err e) h = h.held

pub nearer_shorter : {A : Type 0} (p : Place) (r : Part A) → Holds (PartNearer p) (Clear p) r → IsShorter p r
nearer_shorter p (Ok (Some f)) h = h.held.1
nearer_shorter p (Ok None) h = tt
nearer_shorter p (Err e) h = tt

pub nearer_ahead : {A : Type 0} (p : Place) (r : Part A) → Holds (PartNearer p) (Clear p) r → PartAhead 1 p r
nearer_ahead p r h = advances p r (nearer_clear p r h) (nearer_shorter p r h)

nearer_clears : {A : Type 0} (one : Place → Part A) → ((p : Place) → Holds (PartNearer p) (Clear p) (one p)) → (p : Place) → Clears p (many one p)
nearer_clears one all p = many_clears one (λ q. nearer_clear q (one q) (all q)) p

-- empty lines
some_break : (n : ℕ) → nat_lt 0 n ≡ true → 0 < n
some_break n h = grind (arith, nat_tests)

break_nearer : (p : Place) → 0 < break_len p → Nearer p (skip (break_len p) p)
break_nearer p h = (clear_break p, omega (arith, break_within p h, length_skip (break_len p) p))

pub blank_nearer : (limit : Option ℕ) (p : Place) → Holds (PartNearer p) (Clear p) (empty_line limit p)
unfolding empty_line
blank_nearer limit p =
    bind_holds (indent_clears limit p) (λ q a.
    if_holds (nat_lt 0 (break_len q)) (λ b. ok_holds (nearer_after a (break_nearer q (some_break (break_len q) b)))) (λ b. ok_holds tt))

pub blank_shortens : (limit : Option ℕ) → Shortens (empty_line limit)
blank_shortens limit p = nearer_shorter p (empty_line limit p) (blank_nearer limit p)

empties_clears : (limit : Option ℕ) (p : Place) → Clears p (many (empty_line limit) p)
empties_clears limit p = nearer_clears (empty_line limit) (blank_nearer limit) p

blanks_clears : (limit : Option ℕ) (p : Place) → Clears p (blank_lines limit p)
unfolding blank_lines
blanks_clears limit p = bind_holds (empties_clears limit p) (λ lines a. bind_holds (then_to a (indent_clears limit lines.end)) (λ x c. ok_holds c))

-- a line that does not begin at the end
line_nearer : (p : Place) → is_z (first p) ≡ false → Nearer p (next_line p)
line_nearer p h =
    let q = after_run is_in_line p in
    elim (cases_Bool (is_in_line (first p))) [
      | inl i ↦ (clear_trans (clear_run is_in_line p sure_in_line) (clear_break q), omega (arith, run_nearer is_in_line p i refl, length_skip (break_len q) q))
      | inr o ↦ rw (after_none is_in_line p o) (break_nearer p (is_break_len p (in_or_break (first p) h o)))
    ]

text_starts : (a b : Bool) → (a && not b) ≡ true → b ≡ false
text_starts true true h = sym h
text_starts true false h = refl
text_starts false b h = absurd cc

-- a text line whose indentation is read
ahead_nearer : (indent : ℕ) (p : Place) → Holds (PartNearer p) (Clear p) (ahead.text_line indent p)
unfolding ahead.text_line line_at
ahead_nearer indent p =
    if_holds (is_text indent p) (λ e.
    let n = line_nearer p (text_starts (p.mark.column == indent) (is_z (first p)) e) in
    let blanks = from_holds {R = λ (f : Found Blanks). Nearer p f.end} n.0 (blanks_clears (Some indent) (next_line p)) (λ x b. nearer_then n b) in
    let line : Holds (λ (f : Found Line). Nearer p f.end) (Clear p) (line_at indent p) = bind_holds blanks (λ x b. ok_holds b) in
    bind_holds line (λ l b. ok_holds b)) (λ e. ok_holds tt)

pub text_shortens : (indent : ℕ) → Shortens (ahead.text_line indent)
text_shortens indent p = nearer_shorter p (ahead.text_line indent p) (ahead_nearer indent p)

-- a text line from its indentation on
pub text_nearer : (indent : ℕ) (p : Place) → Holds (PartNearer p) (Clear p) (text_line indent p)
unfolding text_line
text_nearer indent p =
    bind_holds (indent_clears (Some indent) p) (λ q a.
    if_holds (not (is_text indent q)) (λ b. ok_holds tt) (λ b.
    let n = nearer_after a (line_nearer q (text_starts (q.mark.column == indent) (is_z (first q)) (not-false (is_text indent q) b))) in
    bind_holds (from_holds {R = λ (f : Found (List EmptyLine)). Nearer p f.end} n.0 (empties_clears (Some indent) (next_line q)) (λ x c. nearer_then n c)) (λ empties c. ok_holds c)))

pub block_marks : (folded : Bool) (level : Option ℕ) (p : Place) → Marks (λ (s : Scalar). s.end) (skip 1 p) (block folded level p)
unfolding block
block_marks folded level p =
    bind_holds (like_clears header_at header_like (skip 1 p)) (λ header a.
    bind_holds (then_to a (line_end_clears header.end)) (λ start b.
    let set = set_indent level header.value.digit in
    bind_holds (then_clears b (empties_clears set start)) (λ leading c.
    bind_holds (then_to c (indent_clears set leading.end)) (λ next d.
    let indent = block_indent level set (greatest (map (λ e. e.column) leading.value)) next.mark.column in
    bind_holds (then_clears c (nearer_clears (text_line indent) (text_nearer indent) leading.end)) (λ lines e.
    bind_holds (from_holds e (indent_clears (Some indent) lines.end) (λ x f. f)) (λ end f. ok_holds (marked_here e f)))))))

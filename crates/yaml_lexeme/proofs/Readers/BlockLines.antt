-- Literal and folded scalars are read a space and a line at a time.
use Rattle.std.proofs.Common.{◌≡◌, ℕ, ◌+◌, ◌<◌, ◌≤◌, max, Bool, true, false, cond, not, ◌&&◌, ◌||◌, nat_lt, if◌then◌else◌, List, [], ◌∷◌, ◌++◌, length, replicate, slice_index, map, Option, Some, None, Result, Ok, Err, refl, sym, ap, ◌∙◌, arith, append_assoc, lt-ltb, length-append}
use Rattle.std.proofs.lemmas.Str.{encode_ascii, encodes-append}
use Rattle.std.proofs.lemmas.Bool.Decides.{nat_tests}
use Rattle.std.proofs.lemmas.List.{append-nil, replicate_more}
use Rattle.std.specs.List.{fold as fold_list}
use Rattle.std.specs.Char.{encode_utf8}
use Rattle.yaml_text.specs.declared.types.yaml_mark_t.{yaml_mark_t}
use Rattle.yaml_lexeme.specs.declared.problem.yaml_refusal_t.{yaml_refusal_t}
use Rattle.yaml_lexeme.specs.declared.problem.yaml_refusal_t.TheVariants as errors
use Rattle.yaml_lexeme.specs.declared.problem.yaml_problem_t.TheVariants.{TAB_IN_INDENTATION}
use Rattle.yaml_lexeme.proofs.Parts.GatheredParts.{gather, gathers_more, gathers_all, gathers_none}
use Rattle.yaml_lexeme.proofs.Places.PlaceMoves.{after_none, length_skip, break_within}
use Rattle.yaml_lexeme.proofs.Readers.FoldSeparators.{run_more, run_none, encode_some}
use Rattle.yaml_lexeme.proofs.CountedMarks.WholeBlocks.{blank_shortens, text_shortens}
use Rattle.yaml_lexeme.proofs.Parts.ReadResults.{value_or, end_or}
use Rattle.yaml_lexeme.specs.Block.{indent_len, after_indent, EmptyLine, empty_line, break_at, is_text}
use Rattle.yaml_lexeme.specs.Block.{header_at, after_line, set_indent, block_indent, block, or_none}
use Rattle.yaml_lexeme.specs.Greatest.{greatest}
use Rattle.yaml_lexeme.specs.Block.{is_line_feed}
use Rattle.yaml_lexeme.specs.inside.BlockAhead.{Blanks, blanks_of, blank_lines, Line, line_at, text_line, between}
use Rattle.yaml_lexeme.specs.inside.BlockAhead.{chomped, value_after, block_value, end_of as end_of_lines}
use Rattle.yaml_lexeme.specs.inside.BlockAhead.{is_more_indented, block_ahead, is_indenting}
use Rattle.yaml_lexeme.proofs.Readers.BlocksAlike.{blocks_alike}
use Rattle.yaml_lexeme.specs.Classes.{is_in_line}
use Rattle.yaml_lexeme.specs.Fold.{written, or_space}
use Rattle.yaml_lexeme.specs.inside.Gives.{Refuses}
use Rattle.yaml_lexeme.specs.Place.{Place, first, skip, run, after_run, break_len}
use Rattle.yaml_lexeme.specs.Reading.{Offence, Found, Read, found, Part, part, refuse, over, many, ◌>>=◌}
use Rattle.yaml_lexeme.specs.inside.Tails.{breaks_in, TakesBlanks, TakesLine, Keeps, feed_if, IsFed, between_tail, chomped_tail}
use Rattle.yaml_text.specs.Chars.{utf8}
use Rattle.yaml_text.specs.Classes.{is_blank}
use Rattle.yaml_lexeme.specs.declared.block.tail_t.{tail_t}
use Rattle.yaml_lexeme.specs.declared.block.chomp_t.{chomp_t}
use Rattle.yaml_lexeme.specs.declared.block.chomp_t.TheVariants.{STRIP, CLIP, KEEP}
use Rattle.yaml_lexeme.specs.declared.block.header_t.{header_t}
use Rattle.yaml_lexeme.specs.Lexeme.{Scalar}

-- the place after a line that ends with a line feed right here
pub at_feed : (p : Place) → first p ≡ 0x0A → after_line p ≡ Ok (skip 1 p)
unfolding after_line
at_feed p h =
    let none : is_blank (first p) ≡ false = rw h refl in
    rw (after_none is_blank p none, h, h) refl

-- a line feed is counted, if no other break came
pub feed_counted : (n : ℕ) (others : List ℕ) → length others ≡ 0 → replicate (n + 1) 0x0A ++ others ≡ (replicate n 0x0A ++ others) ++ encode_utf8 0x0A
feed_counted n [] h =
    append-nil (replicate (n + 1) 0x0A) ∙ sym (replicate_more n 0x0A)
    ∙ ap (λ (x : List ℕ). x ++ 0x0A ∷ []) (sym (append-nil (replicate n 0x0A)))
    ∙ ap (λ (x : List ℕ). (replicate n 0x0A ++ []) ++ x) (sym (encode_ascii 0x0A (omega arith)))
feed_counted n (x ∷ xs) h = absurd (omega arith)

-- the place after indentation
abbrev pub indent_end : Option ℕ → Place → Place
indent_end limit p = skip (indent_len limit p) p

-- empty lines
indent_if : (b : Bool) (p q x : Place) → length x.rest ≤ length p.rest → cond b (refuse TAB_IN_INDENTATION x) (Ok x) ≡ Ok q → length q.rest ≤ length p.rest
indent_if true p q x h e = absurd cc
indent_if false p q x h e = let same : x ≡ q = cc in rw (← same) h

pub indent_within : (limit : Option ℕ) (p q : Place) → after_indent limit p ≡ Ok q → length q.rest ≤ length p.rest
unfolding after_indent
indent_within limit p q e = indent_if (is_indenting 0x09 limit (indent_end limit p)) p q (indent_end limit p) (omega (arith, length_skip (indent_len limit p) p)) e

-- what follows indentation
abbrev pub blank_at : Place → Part EmptyLine
blank_at q = if nat_lt 0 (break_len q) then part (record { column = q.mark.column; break = written (first q) }) (skip (break_len q) q) else over

blank_is : (limit : Option ℕ) (p : Place) → empty_line limit p ≡ after_indent limit p >>= blank_at
unfolding empty_line
blank_is limit p = refl

pub blank_some : (limit : Option ℕ) (p q : Place) → after_indent limit p ≡ Ok q → 0 < break_len q → empty_line limit p ≡ part (record { column = q.mark.column; break = written (first q) }) (skip (break_len q) q)
blank_some limit p q e h = blank_is limit p ∙ ap (λ (r : Result Place Offence). r >>= blank_at) e ∙ rw (lt-ltb 0 (break_len q) h) refl

pub blank_none : (limit : Option ℕ) (p q : Place) → after_indent limit p ≡ Ok q → break_len q ≡ 0 → empty_line limit p ≡ over
blank_none limit p q e h = blank_is limit p ∙ ap (λ (r : Result Place Offence). r >>= blank_at) e ∙ rw h refl

pub blank_refused : (limit : Option ℕ) (p : Place) (o : Offence) → after_indent limit p ≡ Err o → empty_line limit p ≡ Err o
blank_refused limit p o e = blank_is limit p ∙ ap (λ (r : Result Place Offence). r >>= blank_at) e

-- the breaks and the greatest column of the empty lines so far
abbrev pub State : Type 0
State = List ℕ × ℕ

abbrev pub add_blank : State → EmptyLine → State
add_blank s b = (s.0 ++ encode_utf8 b.break, max s.1 b.column)

added : (lines : List EmptyLine) (out : List ℕ) (column : ℕ) → fold_list add_blank (out, column) lines ≡ (out ++ utf8 (map (λ b. b.break) lines), max column (greatest (map (λ b. b.column) lines)))
added [] out column = let e : column ≡ max column 0 = omega arith in (λ i. (sym (append-nil out) i, e i))
added (b ∷ bs) out column =
    let g = greatest (map (λ b. b.column) bs) in
    let e : max (max column b.column) g ≡ max column (max b.column g) = omega arith in
    let o = append_assoc out (encode_utf8 b.break) (utf8 (map (λ b. b.break) bs)) in
    added bs (out ++ encode_utf8 b.break) (max column b.column) ∙ (λ i. (o i, e i))

-- Empty lines are being read: those up to p are, and the indentation there, up to q.
pub record Blanking (limit : Option ℕ) (start : Place) (old : List ℕ) (q : Place) (out : List ℕ) (column : ℕ) (end : yaml_mark_t) : Type 0 where
  pub line : Place
  pub indent : after_indent limit line ≡ Ok q
  pub mark : end ≡ line.mark
  pub so_far : gather add_blank (out, column) (many (empty_line limit) line) ≡ gather add_blank (old, 0) (many (empty_line limit) start)

pub blanking_begins : (limit : Option ℕ) (start q : Place) (old : List ℕ) (end : yaml_mark_t) → end ≡ start.mark → after_indent limit start ≡ Ok q → Blanking limit start old q old 0 end
blanking_begins limit start q old end m e = record { line = start; indent = e; mark = m; so_far = refl }

-- after the next break
pub next_blank : (limit : Option ℕ) (start : Place) (old : List ℕ) (q : Place) (out : List ℕ) (column : ℕ) (end : yaml_mark_t) → 0 < break_len q → Blanking limit start old q out column end
    → let p = skip (break_len q) q in
    (length p.rest < length q.rest) × (gather add_blank (out ++ encode_utf8 (written (first q)), max column q.mark.column) (many (empty_line limit) p) ≡ gather add_blank (old, 0) (many (empty_line limit) start))
next_blank limit start old q out column end h b =
    let found' : Found EmptyLine = record { value = record { column = q.mark.column; break = written (first q) }; end = skip (break_len q) q } in
    let t = gathers_more add_blank (empty_line limit) (blank_shortens limit) b.line (out, column) found' (gather add_blank (old, 0) (many (empty_line limit) start)) (blank_some limit b.line q b.indent h) b.so_far in
    (omega (arith, length_skip (break_len q) q, break_within q h), t.1)

from_gather : (m : Read (List EmptyLine)) (old : List ℕ) (o : Offence) → gather add_blank (old, 0) m ≡ Err o → m ≡ Err o
from_gather (Ok r) old o h = absurd cc
from_gather (Err e) old o h = let same : e ≡ o = cc in ap (λ x. Err x) same

-- what follows a list of empty lines
abbrev pub after_blanks : Option ℕ → Read (List EmptyLine) → Read Blanks
after_blanks limit m = m >>= λ lines. after_indent limit lines.end >>= λ next. found (blanks_of lines.value lines.end.mark) next

pub blanks_is : (limit : Option ℕ) (p : Place) → blank_lines limit p ≡ after_blanks limit (many (empty_line limit) p)
unfolding blank_lines
blanks_is limit p = refl

-- indentation is refused
pub blanks_refused : (limit : Option ℕ) (start p : Place) (old : List ℕ) (s : State) (o : Offence) → gather add_blank s (many (empty_line limit) p) ≡ gather add_blank (old, 0) (many (empty_line limit) start)
    → after_indent limit p ≡ Err o → blank_lines limit start ≡ Err o
blanks_refused limit start p old s o h e =
    let none = gathers_none add_blank (empty_line limit) (blank_shortens limit) p s (gather add_blank (old, 0) (many (empty_line limit) start)) o (blank_refused limit p o e) h in
    blanks_is limit start ∙ ap (after_blanks limit) (from_gather (many (empty_line limit) start) old o none)

taken : (limit : Option ℕ) (m : Read (List EmptyLine)) (old out : List ℕ) (column : ℕ) (p q : Place) (end : yaml_mark_t) → gather add_blank (old, 0) m ≡ found (out, column) p → after_indent limit p ≡ Ok q → end ≡ p.mark
    → TakesBlanks (Ok column) old out end q (after_blanks limit m)
taken limit (Err e) old out column p q end h i m = absurd cc
taken limit (Ok r) old out column p q end h i m =
    let state : fold_list add_blank (old, 0) r.value ≡ (out, column) = ap (value_or ([], 0)) h in
    let place : r.end ≡ p = ap (end_or p) h in
    let both = sym state ∙ added r.value old 0 in
    let here : after_indent limit r.end ≡ Ok q = ap (after_indent limit) place ∙ i in
    let none : max 0 (greatest (map (λ b. b.column) r.value)) ≡ greatest (map (λ b. b.column) r.value) = omega arith in
    rw here (ap (λ (s : State). s.1) both ∙ none, ap (λ (s : State). s.0) both, m ∙ ap (λ (x : Place). x.mark) (sym place), refl)

-- the empty lines are over
pub blanks_taken : (limit : Option ℕ) (start : Place) (old : List ℕ) (q : Place) (out : List ℕ) (column : ℕ) (end : yaml_mark_t) → break_len q ≡ 0 → Blanking limit start old q out column end
    → TakesBlanks (Ok column) old out end q (blank_lines limit start)
blanks_taken limit start old q out column end h b =
    let all = gathers_all add_blank (empty_line limit) (blank_shortens limit) b.line (out, column) (gather add_blank (old, 0) (many (empty_line limit) start)) (blank_none limit b.line q b.indent h) b.so_far in
    rw (blanks_is limit start) (taken limit (many (empty_line limit) start) old out column b.line q end all b.indent b.mark)

blanks_offence : (error : yaml_refusal_t) (limit : Option ℕ) (start p q : Place) (old : List ℕ) (s : State) → gather add_blank s (many (empty_line limit) p) ≡ gather add_blank (old, 0) (many (empty_line limit) start)
    → Refuses error q (after_indent limit p) → Refuses error q (blank_lines limit start)
blanks_offence errors.MEMORY limit start p q old s h e = tt
blanks_offence (errors.OFFENCE problem) limit start p q old s h e = blanks_refused limit start p old s (record { problem = problem; at = q }) h e

pub first_refused : (error : yaml_refusal_t) (limit : Option ℕ) (start q : Place) (old : List ℕ) → Refuses error q (after_indent limit start) → Refuses error q (blank_lines limit start)
first_refused error limit start q old e = blanks_offence error limit start start q old (old, 0) refl e

pub next_refused : (error : yaml_refusal_t) (limit : Option ℕ) (start : Place) (old : List ℕ) (q x : Place) (out : List ℕ) (column : ℕ) (end : yaml_mark_t) → 0 < break_len q → Blanking limit start old q out column end
    → Refuses error x (after_indent limit (skip (break_len q) q)) → Refuses error x (blank_lines limit start)
next_refused error limit start old q x out column end h b e =
    blanks_offence error limit start (skip (break_len q) q) x old (out ++ encode_utf8 (written (first q)), max column q.mark.column) (next_blank limit start old q out column end h b).1 e

pub next_line : (limit : Option ℕ) (start : Place) (old : List ℕ) (q r : Place) (out new : List ℕ) (column wide : ℕ) (end last : yaml_mark_t) → 0 < break_len q → Blanking limit start old q out column end
    → new ≡ out ++ encode_utf8 (written (first q)) → wide ≡ max column q.mark.column → last ≡ (skip (break_len q) q).mark → after_indent limit (skip (break_len q) q) ≡ Ok r
    → (length r.rest < length q.rest) × Blanking limit start old r new wide last
next_line limit start old q r out new column wide end last h b e f g i =
    let p = skip (break_len q) q in
    let t = next_blank limit start old q out column end h b in
    (omega (arith, t.0, indent_within limit p r i), record { line = p; indent = i; mark = g; so_far = rw (e, f) t.1 })

-- empty lines that were taken
pub blanks_from : (column : ℕ) (end : yaml_mark_t) (old new : List ℕ) (q : Place) (read : Read Blanks) → TakesBlanks (Ok column) old new end q read
    → (b : Blanks) × (read ≡ found b q) × (column ≡ b.column) × (new ≡ old ++ utf8 b.breaks) × (end ≡ b.end)
blanks_from column end old new q (Ok f) h = (f.value, rw h.3 refl, h.0, h.1, h.2)
blanks_from column end old new q (Err e) h = absurd h

-- what follows a line's text
abbrev after_text : Place → Read Blanks → Read Line
after_text p r = r >>= λ blanks. found (record { text = run is_in_line p; break = break_at (after_run is_in_line p); empties = blanks.value.breaks; end = blanks.value.end }) blanks.end

abbrev pub line_end : Place → Place
line_end p = let q = after_run is_in_line p in skip (break_len q) q

pub to_line_end : (p q r : Place) → q ≡ after_run is_in_line p → r ≡ skip (break_len q) q → r ≡ line_end p
to_line_end p q r h f = f ∙ ap (λ (x : Place). skip (break_len x) x) h

line_is : (indent : ℕ) (p : Place) → line_at indent p ≡ after_text p (blank_lines (Some indent) (line_end p))
unfolding line_at
line_is indent p = refl

pub line_refused : (error : yaml_refusal_t) (indent : ℕ) (p q : Place) → Refuses error q (blank_lines (Some indent) (line_end p)) → Refuses error q (line_at indent p)
line_refused errors.MEMORY indent p q h = tt
line_refused (errors.OFFENCE problem) indent p q h = line_is indent p ∙ ap (after_text p) h

no_blank : (c : ℕ) → is_in_line c ≡ false → is_blank c ≡ false
no_blank c h = grind (arith, nat_tests)

first_blank : (b : Bool) (p : Place) → is_in_line (first p) ≡ b → is_blank (slice_index (run is_in_line p) 0) ≡ is_blank (first p)
first_blank true p h = ap (λ (cs : List ℕ). is_blank (slice_index cs 0)) (run_more is_in_line p h refl)
first_blank false p h = ap (λ (cs : List ℕ). is_blank (slice_index cs 0)) (run_none is_in_line p h) ∙ sym (no_blank (first p) h)

pub line_taken : (indent : ℕ) (p q : Place) (old new : List ℕ) (tail : tail_t) (column : ℕ) → tail.lead ≡ break_at (after_run is_in_line p) → (tail.fed ≡ true → tail.lead ≡ Some 0x0A) → tail.indented ≡ is_blank (first p) → new ≡ (old ++ utf8 (run is_in_line p)) ++ feed_if tail.fed
    → TakesBlanks (Ok column) [] (breaks_in tail.empties) tail.end q (blank_lines (Some indent) (line_end p)) → TakesLine (Ok tt) old new tail q (line_at indent p)
line_taken indent p q old new tail column l d i v h =
    let (b, read, wide, breaks, end) = blanks_from column tail.end [] (breaks_in tail.empties) q (blank_lines (Some indent) (line_end p)) h in
    let whole : line_at indent p ≡ found (record { text = run is_in_line p; break = break_at (after_run is_in_line p); empties = b.breaks; end = b.end }) q = line_is indent p ∙ ap (after_text p) read in
    rw whole (record { lead = l; fed = d; empties = breaks; indented = i ∙ sym (first_blank (is_in_line (first p)) p refl); end = end }, v, refl)

-- the bytes and the last line so far
abbrev pub Lines : Type 0
Lines = List ℕ × Line

abbrev pub add_line : Bool → Lines → Line → Lines
add_line folded s l = (s.0 ++ utf8 (between folded s.1 l) ++ utf8 l.text, l)

-- before the first text line
abbrev pub before_lines : List ℕ → yaml_mark_t → Line
before_lines leading m = record { text = []; break = None; empties = leading; end = m }

-- what the lines that were gathered make
abbrev pub finish : chomp_t → Read Lines → Read Scalar
finish chomp r = r >>= λ s. found (record { value = s.value.0 ++ utf8 (chomped chomp s.value.1); end = s.value.1.end; passed_break = false }) s.end

gathered : (folded : Bool) (chomp : chomp_t) (ls : List Line) (out : List ℕ) (last : Line)
    → let s = fold_list (add_line folded) (out, last) ls in
    (s.0 ++ utf8 (chomped chomp s.1) ≡ out ++ utf8 (value_after folded chomp last ls)) × (s.1.end ≡ end_of_lines last.end ls)
gathered folded chomp [] out last = (refl, refl)
gathered folded chomp (l ∷ ls) out last =
    let b = between folded last l in
    let next = out ++ utf8 b ++ utf8 l.text in
    let more = gathered folded chomp ls next l in
    let rest = value_after folded chomp l ls in (
      more.0 ∙ append_assoc (out ++ utf8 b) (utf8 l.text) (utf8 rest) ∙ append_assoc out (utf8 b) (utf8 l.text ++ utf8 rest)
          ∙ ap (λ (xs : List ℕ). out ++ (utf8 b ++ xs)) (sym (encodes-append l.text rest))
          ∙ ap (λ (xs : List ℕ). out ++ xs) (sym (encodes-append b (l.text ++ rest)))
          ∙ ap (λ (xs : List ℕ). out ++ utf8 xs) (sym (append_assoc b l.text rest)),
      more.1,
    )

first_of : (folded : Bool) (chomp : chomp_t) (leading : List ℕ) (m : yaml_mark_t) (ls : List Line) → value_after folded chomp (before_lines leading m) ls ≡ block_value folded chomp leading ls
first_of folded STRIP leading m [] = refl
first_of folded CLIP leading m [] = refl
first_of folded KEEP leading m [] = refl
first_of true chomp leading m (l ∷ ls) = refl
first_of false chomp leading m (l ∷ ls) = refl

or_space_some : (xs : List ℕ) → 0 < length xs → or_space xs ≡ xs
or_space_some [] h = absurd (omega arith)
or_space_some (x ∷ xs) h = refl

or_space_bytes : (e : List ℕ) → or_space (utf8 e) ≡ utf8 (or_space e)
or_space_bytes [] = sym (ap (λ (xs : List ℕ). xs ++ []) (encode_ascii 0x20 (omega arith)))
or_space_bytes (b ∷ bs) = or_space_some (encode_utf8 b ++ utf8 bs) (omega (arith, encode_some b, length-append (encode_utf8 b) (utf8 bs)))

picked : (b : Bool) (lead : Option ℕ) (e : List ℕ) → (if b then or_space (utf8 e) else utf8 (or_none lead) ++ utf8 e) ≡ utf8 (if b then or_space e else or_none lead ++ e)
picked true lead e = or_space_bytes e
picked false lead e = sym (encodes-append (or_none lead) e)

pub between_bytes : (folded : Bool) (tail : tail_t) (last l : Line) (next : Bool) → Keeps tail last → next ≡ is_more_indented l → between_tail folded tail next ≡ utf8 (between folded last l)
between_bytes folded tail last l next k e =
    rw (k.lead, k.empties, k.indented, e) (picked ((folded && is_line_feed last.break) && not (is_more_indented last || is_more_indented l)) last.break last.empties)

pub chomped_bytes : (chomp : chomp_t) (tail : tail_t) (last : Line) → Keeps tail last → chomped_tail chomp tail ≡ utf8 (chomped chomp last)
chomped_bytes STRIP tail last k = refl
chomped_bytes CLIP tail last k = rw (k.lead) refl
chomped_bytes KEEP tail last k = rw (k.lead, k.empties) (sym (encodes-append (or_none last.break) last.empties))

text_is : (indent : ℕ) (p : Place) → is_text indent p ≡ true → text_line indent p ≡ line_at indent p >>= λ l. part l.value l.end
unfolding text_line
text_is indent p h = rw h refl

pub text_none : (indent : ℕ) (p : Place) → is_text indent p ≡ false → text_line indent p ≡ over
unfolding text_line
text_none indent p h = rw h refl

-- a line that was taken
abbrev text_of : Read Line → List ℕ
text_of (Ok l) = l.value.text
text_of (Err e) = []

line_from : (tail : tail_t) (old new : List ℕ) (q : Place) (read : Read Line) → TakesLine (Ok tt) old new tail q read → (l : Line) × (read ≡ found l q) × Keeps tail l × (new ≡ (old ++ utf8 l.text) ++ feed_if tail.fed)
line_from tail old new q (Ok f) h = (f.value, rw h.2 refl, h.0, h.1)
line_from tail old new q (Err e) h = absurd h

read_blank : (indent : ℕ) (p q : Place) (l : Line) (r : Read Blanks) → after_text p r ≡ found l q → is_more_indented l ≡ is_blank (first p)
read_blank indent p q l (Ok b) e = let same : run is_in_line p ≡ l.text = ap text_of e in ap (λ (cs : List ℕ). is_blank (slice_index cs 0)) (sym same) ∙ first_blank (is_in_line (first p)) p refl
read_blank indent p q l (Err o) e = absurd cc

-- Lines are being read: what that makes is what the scalar is. A line feed may follow what was taken.
pub record Blocking (folded : Bool) (level : Option ℕ) (start : Place) (chomp : chomp_t) (indent : ℕ) (p : Place) (out : List ℕ) (tail : tail_t) : Type 0 where
  pub last : Line
  pub keeps : Keeps tail last
  pub taken : List ℕ
  pub put : out ≡ taken ++ feed_if tail.fed
  pub so_far : finish chomp (gather (add_line folded) (taken, last) (many (text_line indent) p)) ≡ block folded level start

pub blocks_fed : (folded : Bool) (level : Option ℕ) (start : Place) (chomp : chomp_t) (indent : ℕ) (p : Place) (out : List ℕ) (tail : tail_t) → Blocking folded level start chomp indent p out tail → IsFed tail out
blocks_fed folded level start chomp indent p out tail b =
    record {
      lead = b.keeps.fed;
      some = λ h. let one : length (feed_if tail.fed) ≡ 1 = ap (λ (f : Bool). length (feed_if f)) h in omega (arith, one, ap length b.put, length-append b.taken (feed_if tail.fed));
    }

pub blocks_more : (folded : Bool) (level : Option ℕ) (start : Place) (chomp : chomp_t) (indent : ℕ) (p q : Place) (out mid new : List ℕ) (tail next : tail_t) (blank : Bool)
    → is_text indent p ≡ true → Blocking folded level start chomp indent p out tail → blank ≡ is_blank (first p) → ((x : List ℕ) → out ≡ x ++ feed_if tail.fed → mid ≡ x ++ between_tail folded tail blank) → TakesLine (Ok tt) mid new next q (line_at indent p)
    → (length q.rest < length p.rest) × Blocking folded level start chomp indent q new next
blocks_more folded level start chomp indent p q out mid new tail next blank h b c m t =
    let (l, read, keeps, value) = line_from next mid new q (line_at indent p) t in
    let more : is_more_indented l ≡ is_blank (first p) = read_blank indent p q l (blank_lines (Some indent) (line_end p)) (sym (line_is indent p) ∙ read) in
    let f : Found Line = record { value = l; end = q } in
    let one : text_line indent p ≡ Ok (Some f) = text_is indent p h ∙ ap (λ (r : Read Line). r >>= λ l. part l.value l.end) read in
    let s : Lines = (b.taken, b.last) in
    let g = gathers_more (add_line folded) (text_line indent) (text_shortens indent) p s f (gather (add_line folded) s (many (text_line indent) p)) one refl in
    let between' : mid ≡ b.taken ++ utf8 (between folded b.last l) = m b.taken b.put ∙ ap (λ (xs : List ℕ). b.taken ++ xs) (between_bytes folded tail b.last l blank b.keeps (c ∙ sym more)) in
    let value' : new ≡ (b.taken ++ utf8 (between folded b.last l) ++ utf8 l.text) ++ feed_if next.fed = value ∙ ap (λ (xs : List ℕ). (xs ++ utf8 l.text) ++ feed_if next.fed) between' in
    (g.0, record { last = l; keeps = keeps; taken = b.taken ++ utf8 (between folded b.last l) ++ utf8 l.text; put = value'; so_far = ap (finish chomp) g.1 ∙ b.so_far })

pub blocks_all : (folded : Bool) (level : Option ℕ) (start : Place) (chomp : chomp_t) (indent : ℕ) (p : Place) (out new : List ℕ) (tail : tail_t)
    → is_text indent p ≡ false → Blocking folded level start chomp indent p out tail → ((x : List ℕ) → out ≡ x ++ feed_if tail.fed → new ≡ x ++ chomped_tail chomp tail)
    → block folded level start ≡ found (record { value = new; end = tail.end; passed_break = false }) p
blocks_all folded level start chomp indent p out new tail h b e =
    let s : Lines = (b.taken, b.last) in
    let all = gathers_all (add_line folded) (text_line indent) (text_shortens indent) p s (gather (add_line folded) s (many (text_line indent) p)) (text_none indent p h) refl in
    let value : new ≡ b.taken ++ utf8 (chomped chomp b.last) = e b.taken b.put ∙ ap (λ (xs : List ℕ). b.taken ++ xs) (chomped_bytes chomp tail b.last b.keeps) in
    rw (value, b.keeps.end) (sym b.so_far ∙ ap (finish chomp) all)

-- what a block scalar is after its header and leading empty lines
abbrev pub tail_of : Bool → chomp_t → Blanks → Read (List Line) → Read Scalar
tail_of folded chomp b m = m >>= λ lines. found (record { value = utf8 (block_value folded chomp b.breaks lines.value); end = end_of_lines b.end lines.value; passed_break = false }) lines.end

tail_is : (folded : Bool) (chomp : chomp_t) (b : Blanks) (m : Read (List Line)) → finish chomp (gather (add_line folded) ([], before_lines b.breaks b.end) m) ≡ tail_of folded chomp b m
tail_is folded chomp b (Err e) = refl
tail_is folded chomp b (Ok r) =
    let t = gathered folded chomp r.value [] (before_lines b.breaks b.end) in
    let value = t.0 ∙ ap utf8 (first_of folded chomp b.breaks b.end r.value) in
    rw (value, t.1) refl

abbrev pub after_leading : Bool → Option ℕ → header_t → Read Blanks → Read Scalar
after_leading folded level h r = r >>= λ leading. tail_of folded h.chomp leading.value (many (text_line (block_indent level (set_indent level h.digit) leading.value.column leading.end.mark.column)) leading.end)

abbrev pub after_start : Bool → Option ℕ → header_t → Result Place Offence → Read Scalar
after_start folded level h r = r >>= λ start. after_leading folded level h (blank_lines (set_indent level h.digit) start)

abbrev pub after_header : Bool → Option ℕ → Read header_t → Read Scalar
after_header folded level r = r >>= λ header. after_start folded level header.value (after_line header.end)

pub ahead_is : (folded : Bool) (level : Option ℕ) (p : Place) → block_ahead folded level p ≡ after_header folded level (header_at (skip 1 p))
unfolding block_ahead
ahead_is folded level p = refl

pub block_is : (folded : Bool) (level : Option ℕ) (p : Place) → block folded level p ≡ after_header folded level (header_at (skip 1 p))
block_is folded level p = blocks_alike folded level p ∙ ahead_is folded level p

pub header_refused : (error : yaml_refusal_t) (folded : Bool) (level : Option ℕ) (p q : Place) → Refuses error q (header_at (skip 1 p)) → Refuses error q (block folded level p)
header_refused errors.MEMORY folded level p q h = tt
header_refused (errors.OFFENCE problem) folded level p q h = block_is folded level p ∙ ap (after_header folded level) h

pub start_refused : (error : yaml_refusal_t) (folded : Bool) (level : Option ℕ) (p q : Place) (header : header_t) (a : Place) → header_at (skip 1 p) ≡ found header a → Refuses error q (after_line a) → Refuses error q (block folded level p)
start_refused errors.MEMORY folded level p q header a e h = tt
start_refused (errors.OFFENCE problem) folded level p q header a e h = block_is folded level p ∙ ap (after_header folded level) e ∙ ap (after_start folded level header) h

pub leading_refused : (error : yaml_refusal_t) (folded : Bool) (level : Option ℕ) (p q : Place) (header : header_t) (a b : Place) → header_at (skip 1 p) ≡ found header a → after_line a ≡ Ok b
    → Refuses error q (blank_lines (set_indent level header.digit) b) → Refuses error q (block folded level p)
leading_refused errors.MEMORY folded level p q header a b e f h = tt
leading_refused (errors.OFFENCE problem) folded level p q header a b e f h =
    block_is folded level p ∙ ap (after_header folded level) e ∙ ap (after_start folded level header) f ∙ ap (after_leading folded level header) h

pub blocks_begin : (folded : Bool) (level : Option ℕ) (p : Place) (header : header_t) (a b q : Place) (column indent : ℕ) (tail : tail_t) → header_at (skip 1 p) ≡ found header a → after_line a ≡ Ok b
    → TakesBlanks (Ok column) [] (breaks_in tail.empties) tail.end q (blank_lines (set_indent level header.digit) b)
    → tail.lead ≡ None → tail.fed ≡ false → tail.indented ≡ false → indent ≡ block_indent level (set_indent level header.digit) column q.mark.column → Blocking folded level p header.chomp indent q [] tail
blocks_begin folded level p header a b q column indent tail e f t l d i n =
    let (leading, read, wide, breaks, end) = blanks_from column tail.end [] (breaks_in tail.empties) q (blank_lines (set_indent level header.digit) b) t in
    let here : block folded level p ≡ tail_of folded header.chomp leading (many (text_line (block_indent level (set_indent level header.digit) leading.column q.mark.column)) q) =
    block_is folded level p ∙ ap (after_header folded level) e ∙ ap (after_start folded level header) f ∙ ap (after_leading folded level header) read in
    let same : indent ≡ block_indent level (set_indent level header.digit) leading.column q.mark.column = n ∙ ap (λ (k : ℕ). block_indent level (set_indent level header.digit) k q.mark.column) wide in
    let zero = before_lines leading.breaks leading.end in
    record {
      last = zero;
      keeps = record { lead = l; fed = λ h. absurd cc; empties = breaks; indented = i; end = end };
      taken = [];
      put = sym (ap feed_if d);
      so_far = rw same (tail_is folded header.chomp leading (many (text_line (block_indent level (set_indent level header.digit) leading.column q.mark.column)) q) ∙ sym here);
    }

-- a line could not be taken
pub blocks_refused : (error : yaml_refusal_t) (folded : Bool) (level : Option ℕ) (start : Place) (chomp : chomp_t) (indent : ℕ) (p q : Place) (out : List ℕ) (tail : tail_t)
    → is_text indent p ≡ true → Blocking folded level start chomp indent p out tail → Refuses error q (line_at indent p) → Refuses error q (block folded level start)
blocks_refused errors.MEMORY folded level start chomp indent p q out tail h b e = tt
blocks_refused (errors.OFFENCE problem) folded level start chomp indent p q out tail h b e =
    let s : Lines = (b.taken, b.last) in
    let o : Offence = record { problem = problem; at = q } in
    let one : text_line indent p ≡ Err o = text_is indent p h ∙ ap (λ (r : Read Line). r >>= λ l. part l.value l.end) e in
    let none = gathers_none (add_line folded) (text_line indent) (text_shortens indent) p s (gather (add_line folded) s (many (text_line indent) p)) o one refl in
    sym b.so_far ∙ ap (finish chomp) none

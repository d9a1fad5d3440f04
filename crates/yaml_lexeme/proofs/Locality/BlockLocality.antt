-- Literal and folded scalars are good.
use Rattle.std.proofs.Common.{◌≡◌, ℕ, ◌+◌, ◌-◌, ◌≤◌, min, Bool, true, false, ◌==◌, nat_lt, if◌then◌else◌, inl, inr, List, Option, Some, None, Result, Ok, Err, refl, sym, ap, ◌∙◌, subst, arith}
use Rattle.std.proofs.lemmas.Bool.{cases_Bool, cases_lt}
use Rattle.yaml_lexeme.proofs.Locality.DirectiveLocality.{line_like}
use Rattle.yaml_lexeme.proofs.Locality.GapLocality.{break_same, break_step}
use Rattle.yaml_lexeme.proofs.CountedMarks.WholePlaces.{break_whole, sure_in_line}
use Rattle.yaml_lexeme.proofs.Locality.ComposedReaders.{Like, IsLike, agree_sym, like_found, found_here, refuse_here, like_if, like_bind, like_same, like_map, like_run, like_step, Good}
use Rattle.yaml_lexeme.proofs.Locality.HeaderLocality.{header_like}
use Rattle.yaml_lexeme.proofs.Locality.LocalReaders.{agree_less, run_same}
use Rattle.yaml_lexeme.proofs.Locality.LookaheadLists.{Next, go, stop, join, finish, finish_like, many_like, Joins, join_if, join_part}
use Rattle.yaml_lexeme.proofs.CountedMarks.WholeBlocks.{indent_whole, blank_shortens, text_shortens}
use Rattle.yaml_lexeme.specs.Block.{header_at, after_line}
use Rattle.yaml_lexeme.specs.Block.{indent_len, after_indent, EmptyLine, empty_line, break_at, is_text}
use Rattle.yaml_lexeme.specs.Block.{block_indent, set_indent, block}
use Rattle.yaml_lexeme.proofs.Readers.BlocksAlike.{blocks_alike}
use Rattle.yaml_lexeme.specs.inside.BlockAhead.{Blanks, blanks_of, blank_lines, Line, line_at, text_line, block_value}
use Rattle.yaml_lexeme.specs.inside.BlockAhead.{end_of, block_ahead, is_indenting}
use Rattle.yaml_lexeme.specs.Classes.{is_in_line}
use Rattle.yaml_lexeme.specs.Fold.{written}
use Rattle.yaml_lexeme.proofs.Locality.AgreeingPlaces.{Agree}
use Rattle.yaml_lexeme.proofs.Readers.BlockLines.{blank_at, after_blanks}
use Rattle.yaml_lexeme.specs.Place.{Place, first, skip, run_len, break_len}
use Rattle.yaml_lexeme.specs.Reading.{Offence, Found, Read, found, refuse, ◌>>=◌, part, over, many}
use Rattle.yaml_lexeme.specs.declared.block.header_t.{header_t}
use Rattle.yaml_lexeme.specs.Lexeme.{Scalar}
use Rattle.yaml_lexeme.specs.declared.problem.yaml_problem_t.TheVariants.{TAB_IN_INDENTATION}
use Rattle.yaml_text.specs.Chars.{utf8}
use Rattle.yaml_text.specs.declared.types.yaml_mark_t.{yaml_mark_t}

abbrev spaces : Place → ℕ
spaces p = run_len (λ c. c == 0x20) p

most_same : (m n : ℕ) (p q : Place) → Agree n p q → min (spaces p) m + 8 ≤ n → min (spaces q) m ≡ min (spaces p) m
most_same m n p q a h =
    elim (cases_lt (spaces p) m) [
      | inl less ↦ let e = run_same (λ c. c == 0x20) p q (agree_less (spaces p + 1) n p q (omega arith) a) in omega arith
      | inr enough ↦
          elim (cases_lt (spaces q) m) [
            | inl less ↦ let e = run_same (λ c. c == 0x20) q p (agree_less (spaces q + 1) n q p (omega arith) (agree_sym n p q a)) in omega arith
            | inr both ↦ omega arith
          ]
    ]

indent_same : (limit : Option ℕ) (n : ℕ) (p q : Place) → Agree n p q → indent_len limit p + 8 ≤ n → indent_len limit q ≡ indent_len limit p
indent_same None n p q a h = run_same (λ c. c == 0x20) p q (agree_less (spaces p + 1) n p q (omega arith) a)
indent_same (Some m) n p q a h =
    let col : q.mark.column ≡ p.mark.column = ap (λ (k : yaml_mark_t). k.column) (sym a.mark) in
    ap (λ (c : ℕ). min (spaces q) (m - c)) col ∙ most_same (m - p.mark.column) n p q a h

-- what follows the spaces
abbrev indent_then : Option ℕ → Place → Read ℕ
indent_then limit q = if is_indenting 0x09 limit q then refuse TAB_IN_INDENTATION q else found 0 q

abbrev indented : Option ℕ → Place → Read ℕ
indented limit p = indent_then limit (skip (indent_len limit p) p)

indented_like : (limit : Option ℕ) → IsLike (indented limit)
indented_like limit n p q a =
    let s = like_found {A = Unit {0}} {a = tt} {b = tt} (indent_len limit p) refl (indent_whole limit p) (λ h. ap (λ (i : ℕ). skip i q) (indent_same limit n p q a h)) (λ h. refl) in
    like_step (indent_then limit) (λ m x y b. like_if (is_indenting 0x09 limit x) (is_indenting 0x09 limit y) (λ h. rw (b.mark, b.same 0 (omega arith)) refl) refuse_here found_here) n p q (skip (indent_len limit p) p) (skip (indent_len limit q) q) a s

indent_is : {A : Type 0} (limit : Option ℕ) (p : Place) (f : Place → Result A Offence) → (after_indent limit p >>= f) ≡ (indented limit p >>= λ x. f x.end)
unfolding after_indent
indent_is limit p f = let q = skip (indent_len limit p) p in elim (cases_Bool (is_indenting 0x09 limit q)) [ inl e ↦ rw e refl | inr e ↦ rw e refl ]

abbrev last : Option ℕ → Place → Read yaml_mark_t
last limit p = indented limit p >>= λ x. found p.mark x.end

abbrev turn_then : yaml_mark_t → Place → Read (Next EmptyLine yaml_mark_t)
turn_then m q = if nat_lt 0 (break_len q) then found (go (record { column = q.mark.column; break = written (first q) })) (skip (break_len q) q) else found (stop m) q

abbrev turn : Option ℕ → Place → Read (Next EmptyLine yaml_mark_t)
turn limit p = indented limit p >>= λ x. turn_then p.mark x.end

-- the one whose break is at q
abbrev empty_at : Place → EmptyLine
empty_at q = record { column = q.mark.column; break = written (first q) }

blank_same : (n : ℕ) (p q : Place) → Agree n p q → 8 ≤ n → empty_at q ≡ empty_at p
blank_same n p q a h = rw (a.mark, a.same 0 (omega arith)) refl

then_like : (m : yaml_mark_t) → IsLike (turn_then m)
then_like m n p q a =
    like_if (nat_lt 0 (break_len p)) (nat_lt 0 (break_len q)) (λ h. ap (λ (i : ℕ). nat_lt 0 i) (break_same n p q a h))
    (like_found (break_len p) refl (break_whole p) (λ h. ap (λ (i : ℕ). skip i q) (break_same n p q a (omega arith))) (λ h. ap (λ (b : EmptyLine). go b) (blank_same n p q a (omega arith)))) found_here

turn_like : (limit : Option ℕ) → IsLike (turn limit)
turn_like limit n p q a =
    subst (λ (m : yaml_mark_t). Like {A = Next EmptyLine yaml_mark_t} n p q (turn limit p) (indented limit q >>= λ x. turn_then m x.end)) a.mark
    (like_bind _ _ a (indented_like limit n p q a) (λ x z i b. then_like p.mark i x.end z b))

by_break : (b : Bool) (m : yaml_mark_t) (v : EmptyLine) (q r : Place) → (if b then found (go v) r else found (stop m) q) ≡ join (if b then part v r else over) (found {A = yaml_mark_t} m q)
by_break true m v q r = refl
by_break false m v q r = refl

by_indent : (r : Read ℕ) (m : yaml_mark_t) → (r >>= λ x. turn_then m x.end) ≡ join (r >>= λ x. if nat_lt 0 (break_len x.end) then part (record { column = x.end.mark.column; break = written (first x.end) }) (skip (break_len x.end) x.end) else over) (r >>= λ x. found m x.end)
by_indent (Ok x) m = by_break (nat_lt 0 (break_len x.end)) m (record { column = x.end.mark.column; break = written (first x.end) }) x.end (skip (break_len x.end) x.end)
by_indent (Err e) m = refl

blank_is : (limit : Option ℕ) (p : Place) → empty_line limit p ≡ (indented limit p >>= λ x. blank_at x.end)
unfolding empty_line
blank_is limit p = indent_is limit p blank_at

turn_is : (limit : Option ℕ) (p : Place) → turn limit p ≡ join (empty_line limit p) (last limit p)
turn_is limit p = rw (blank_is limit p) (by_indent (indented limit p) p.mark)

abbrev blanks_from : Read (List EmptyLine × yaml_mark_t) → Read Blanks
blanks_from r = r >>= λ t. found (blanks_of t.value.0 t.value.1) t.end

last_is : (r : Read ℕ) (ls : List EmptyLine) (m : yaml_mark_t) → (r >>= λ x. found (blanks_of ls m) x.end) ≡ blanks_from ((r >>= λ x. found m x.end) >>= λ b. found (ls, b.value) b.end)
last_is (Ok x) ls m = refl
last_is (Err e) ls m = refl

blanks_is : (limit : Option ℕ) (r : Read (List EmptyLine)) → after_blanks limit r ≡ blanks_from (finish (last limit) r)
blanks_is limit (Ok lines) = indent_is limit lines.end (λ next. found (blanks_of lines.value lines.end.mark) next) ∙ last_is (indented limit lines.end) lines.value lines.end.mark
blanks_is limit (Err e) = refl

lines_is : (limit : Option ℕ) (p : Place) → blank_lines limit p ≡ blanks_from (finish (last limit) (many (empty_line limit) p))
unfolding blank_lines
lines_is limit p = blanks_is limit (many (empty_line limit) p)

lines_like : (limit : Option ℕ) → IsLike (blank_lines limit)
lines_like limit n p q a =
    rw (lines_is limit p, lines_is limit q) (like_map (λ (t : List EmptyLine × yaml_mark_t). blanks_of t.0 t.1) (finish_like (empty_line limit) (last limit) (turn limit) (blank_shortens limit) (turn_is limit) (turn_like limit) n p q a))

abbrev line_then : ℕ → List ℕ → Place → Read Line
line_then indent text q = blank_lines (Some indent) (skip (break_len q) q) >>= λ blanks. found (record { text = text; break = break_at q; empties = blanks.value.breaks; end = blanks.value.end }) blanks.end

abbrev line_of : List ℕ → Option ℕ → Blanks → Line
line_of text b blanks = record { text = text; break = b; empties = blanks.breaks; end = blanks.end }

at_break : (n : ℕ) (p q : Place) → Agree n p q → 8 ≤ n → break_at q ≡ break_at p
at_break n p q a h = rw (a.same 0 (omega arith), a.same 1 (omega arith)) refl

line_then_like : (indent : ℕ) (text : List ℕ) → IsLike (line_then indent text)
line_then_like indent text n p q a =
    like_same (λ h. ap (λ (b : Option ℕ). blank_lines (Some indent) (skip (break_len q) q) >>= λ blanks. found (line_of text b blanks.value) blanks.end) (at_break n p q a h))
    (like_map (line_of text (break_at p)) (like_step (blank_lines (Some indent)) (lines_like (Some indent)) n p q (skip (break_len p) p) (skip (break_len q) q) a (break_step n p q a)))

line_like_at : (indent : ℕ) → IsLike (line_at indent)
unfolding line_at
line_like_at indent n p q a = like_run (line_then indent) (line_then_like indent) is_in_line sure_in_line n p q a

abbrev text_turn : ℕ → Place → Read (Next Line (Unit {0}))
text_turn indent p = if is_text indent p then (line_at indent p >>= λ l. found (go l.value) l.end) else found (stop tt) p

text_turn_like : (indent : ℕ) → IsLike (text_turn indent)
text_turn_like indent n p q a =
    like_if (is_text indent p) (is_text indent q) (λ h. rw (a.mark, a.same 0 (omega arith)) refl) (like_map (λ (l : Line). go l) (line_like_at indent n p q a)) found_here

text_joins : (indent : ℕ) (p : Place) → Joins (text_turn indent p) (text_line indent p) (found tt p)
unfolding text_line
text_joins indent p = join_if (is_text indent p) (λ e. join_part (λ (l : Line). l) (line_at indent p) (found tt p)) (λ e. record { joined = refl })

-- after the leading empty lines
abbrev block_end : Bool → header_t → Option ℕ → Found Blanks → Read Scalar
block_end folded header level leading =
    many (text_line (block_indent level (set_indent level header.digit) leading.value.column leading.end.mark.column)) leading.end >>= λ lines.
    found (record { value = utf8 (block_value folded header.chomp leading.value.breaks lines.value); end = end_of leading.value.end lines.value; passed_break = false }) lines.end

abbrev block_value_of : Bool → header_t → Blanks → List Line → Scalar
block_value_of folded header leading lines = record { value = utf8 (block_value folded header.chomp leading.breaks lines); end = end_of leading.end lines; passed_break = false }

-- after the header's line
abbrev block_lines : Bool → Option ℕ → header_t → Place → Read Scalar
block_lines folded level header start = blank_lines (set_indent level header.digit) start >>= λ leading. block_end folded header level leading

end_like : (folded : Bool) (header : header_t) (level : Option ℕ) (column : ℕ) (leading : Blanks) (n : ℕ) (p q : Place) → Agree n p q → p.mark.column ≡ column
    → Like n p q (many (text_line (block_indent level (set_indent level header.digit) leading.column column)) p >>= λ lines. found (block_value_of folded header leading lines.value) lines.end)
    (many (text_line (block_indent level (set_indent level header.digit) leading.column column)) q >>= λ lines. found (block_value_of folded header leading lines.value) lines.end)
end_like folded header level column leading n p q a e =
    let indent = block_indent level (set_indent level header.digit) leading.column column in
    like_map (block_value_of folded header leading) (many_like (text_line indent) (text_turn indent) (text_shortens indent) (λ x. (text_joins indent x).joined) (text_turn_like indent) n p q a)

block_lines_like : (folded : Bool) (level : Option ℕ) (header : header_t) → IsLike (block_lines folded level header)
block_lines_like folded level header n p q a =
    like_bind _ _ a (lines_like (set_indent level header.digit) n p q a) (λ x z m b.
    subst (λ (k : yaml_mark_t). Like {A = Scalar} m x.end z (block_end folded header level x) (many (text_line (block_indent level (set_indent level header.digit) x.value.column k.column)) z >>= λ lines. found (block_value_of folded header x.value lines.value) lines.end)) b.mark
    (end_like folded header level x.end.mark.column x.value m x.end z b refl))

abbrev as_read : Result Place Offence → Read ℕ
as_read r = r >>= λ next. found {A = ℕ} 0 next

rest_is : {A : Type 0} (r : Result Place Offence) (f : Place → Read A) → (r >>= f) ≡ (as_read r >>= λ x. f x.end)
rest_is (Ok p) f = refl
rest_is (Err e) f = refl

abbrev block_header : Bool → Option ℕ → Place → Read Scalar
block_header folded level p = header_at p >>= λ header. as_read (after_line header.end) >>= λ start. block_lines folded level header.value start.end

block_from : (folded : Bool) (level : Option ℕ) (r : Read header_t) → (r >>= λ header. after_line header.end >>= λ start. block_lines folded level header.value start) ≡ (r >>= λ header. as_read (after_line header.end) >>= λ start. block_lines folded level header.value start.end)
block_from folded level (Ok header) = rest_is (after_line header.end) (block_lines folded level header.value)
block_from folded level (Err e) = refl

block_is : (folded : Bool) (level : Option ℕ) (p : Place) → block folded level p ≡ block_header folded level (skip 1 p)
unfolding block_ahead
block_is folded level p = blocks_alike folded level p ∙ block_from folded level (header_at (skip 1 p))

block_header_like : (folded : Bool) (level : Option ℕ) → IsLike (block_header folded level)
block_header_like folded level n p q a =
    like_bind _ _ a (header_like n p q a) (λ x z m b.
    like_bind _ _ b (line_like {A = ℕ} 0 m x.end z b) (λ y w i c. block_lines_like folded level x.value i y.end w c))

pub block_good : (folded : Bool) (level : Option ℕ) → Good (block folded level)
block_good folded level = record { next = block_header folded level; is = block_is folded level; like = block_header_like folded level }

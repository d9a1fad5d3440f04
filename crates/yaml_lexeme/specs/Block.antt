-- Literal and folded scalars (YAML 1.1, 9.2 Block Scalar Header, 9.3 Block Scalar Styles and 6.1 Indentation Spaces).
use Rattle.std.specs.Prelude.{ℕ, ◌+◌, ◌-◌, min, max, Bool, true, false, not, ◌&&◌, ◌||◌, ◌==◌, nat_lt, if◌then◌else◌}
use Rattle.std.specs.Prelude.{List, [], ◌∷◌, ◌++◌, map, slice_index, Option, Some, None, is_some, option_map, unwrap_or}
use Rattle.std.specs.Prelude.{Result, Ok}
use Rattle.yaml_text.specs.Chars.{utf8}
use Rattle.yaml_text.specs.Classes.{is_blank, is_break, is_digit, is_z}
use Rattle.yaml_lexeme.specs.declared.block.chomp_t.{chomp_t}
use Rattle.yaml_lexeme.specs.declared.block.chomp_t.TheVariants.{STRIP, CLIP, KEEP}
use Rattle.yaml_lexeme.specs.declared.block.header_t.{header_t}
use Rattle.yaml_lexeme.specs.Lexeme.{Scalar}
use Rattle.yaml_lexeme.specs.declared.problem.yaml_problem_t.TheVariants as problem
use Rattle.yaml_lexeme.specs.Classes.{is_in_line, line_feed}
use Rattle.yaml_lexeme.specs.Place.{Place, first, skip, run, run_len, after_run, break_len}
use Rattle.yaml_lexeme.specs.Greatest.{greatest}
use Rattle.yaml_lexeme.specs.Gap.{after_comment}
use Rattle.yaml_lexeme.specs.Fold.{written, or_space}
use Rattle.yaml_lexeme.specs.Reading.{Offence, Read, found, refuse, ◌>>=◌, Part, part, over, many}

-- a sign of a header: `+` or `-`
abbrev pub is_sign : ℕ → Bool
is_sign c = c == 0x2B || c == 0x2D

-- what is kept after the last text line
abbrev pub sign_of : ℕ → chomp_t
sign_of c = if c == 0x2B then KEEP else STRIP

-- a digit of the indentation, which is not 0
unfoldable pub digit_at : Place → Read (Option ℕ)
digit_at p =
    if not (is_digit (first p)) then found None p
    else if first p == 0x30 then refuse problem.INDICATOR_ZERO p
    else found (Some (first p - 0x30)) (skip 1 p)

-- a header
abbrev pub header_of : chomp_t → Option ℕ → header_t
header_of chomp digit = record { chomp = chomp; digit = digit }

-- after `|` or `>`: a sign and a digit in either order, each optional
unfoldable pub header_at : Place → Read header_t
header_at p =
    if is_sign (first p) then (digit_at (skip 1 p) >>= λ d. found (header_of (sign_of (first p)) d.value) d.end)
    else digit_at p >>= λ d.
    if is_some d.value && is_sign (first d.end) then found (header_of (sign_of (first d.end)) d.value) (skip 1 d.end)
    else found (header_of CLIP d.value) d.end

-- after blanks, a comment and a break, or at the end of the text
unfoldable pub after_line : Place → Result Place Offence
after_line p =
    let q = after_comment (after_run is_blank p) in
    if is_break (first q) || is_z (first q) then Ok (skip (break_len q) q) else refuse problem.NO_COMMENT_OR_BREAK q

-- A bound on columns, or none.
abbrev pub is_below : Option ℕ → ℕ → Bool
is_below None column = true
is_below (Some n) column = nat_lt column n

-- how many spaces are indentation
abbrev pub indent_len : Option ℕ → Place → ℕ
indent_len None p = run_len (λ c. c == 0x20) p
indent_len (Some n) p = min (run_len (λ c. c == 0x20) p) (n - p.mark.column)

-- after the spaces that are indentation, with no tab among them
unfoldable pub after_indent : Option ℕ → Place → Result Place Offence
after_indent limit p =
    let q = skip (indent_len limit p) p in
    if first q == 0x09 && is_below limit q.mark.column then refuse problem.TAB_IN_INDENTATION q else Ok q

-- LINES

-- an empty line: the column that its spaces reach, and its break as it is written
pub record EmptyLine : Type 0 where
  pub column : ℕ
  pub break : ℕ

-- the empty line at p, if one is there
unfoldable pub empty_line : Option ℕ → Place → Part EmptyLine
empty_line limit p = after_indent limit p >>= λ q.
    if nat_lt 0 (break_len q)
    then part (record { column = q.mark.column; break = written (first q) }) (skip (break_len q) q) else over

-- the breaks of empty lines
abbrev pub breaks_of : List EmptyLine → List ℕ
breaks_of lines = map (λ b. b.break) lines

-- a text line, its break if it has one, and the breaks of the empty lines after it
pub record TextLine : Type 0 where
  pub text : List ℕ
  pub break : Option ℕ
  pub empties : List ℕ

-- the break at q as it is written, if one is there
abbrev pub break_at : Place → Option ℕ
break_at q = if nat_lt 0 (break_len q) then Some (written (first q)) else None

-- a text line is here, after its indentation
abbrev pub is_text : ℕ → Place → Bool
is_text indent p = p.mark.column == indent && not (is_z (first p))

-- the place after a line that goes on here
abbrev pub next_line : Place → Place
next_line p = let q = after_run is_in_line p in skip (break_len q) q

-- the text line at p, if one is there, and as many empty lines as possible after it
unfoldable pub text_line : ℕ → Place → Part TextLine
text_line indent p =
    after_indent (Some indent) p >>= λ q.
    if not (is_text indent q) then over
    else many (empty_line (Some indent)) (next_line q) >>= λ empties.
    let end = after_run is_in_line q in
    part (record { text = run is_in_line q; break = break_at end; empties = breaks_of empties.value }) empties.end

-- THE VALUE

-- folding does not touch a line that begins with a blank
abbrev pub is_more_indented : TextLine → Bool
is_more_indented l = is_blank (slice_index l.text 0)

-- a break, if there is one
abbrev pub or_none : Option ℕ → List ℕ
or_none None = []
or_none (Some b) = b ∷ []

-- the break is written as a line feed
abbrev pub is_line_feed : Option ℕ → Bool
is_line_feed None = false
is_line_feed (Some b) = b == line_feed

-- what is between two text lines
abbrev pub between : Bool → TextLine → TextLine → List ℕ
between folded a b =
    if (folded && is_line_feed a.break) && not (is_more_indented a || is_more_indented b) then or_space a.empties
    else or_none a.break ++ a.empties

-- the text of a line and of those after it, joined
abbrev pub joined : Bool → TextLine → List TextLine → List ℕ
joined folded a [] = a.text
joined folded a (b ∷ ls) = a.text ++ between folded a b ++ joined folded b ls

-- the last of a line and those after it
abbrev pub last_of : TextLine → List TextLine → TextLine
last_of a [] = a
last_of a (b ∷ ls) = last_of b ls

-- what comes after the last line
abbrev pub chomped : chomp_t → TextLine → List ℕ
chomped STRIP l = []
chomped CLIP l = or_none l.break
chomped KEEP l = or_none l.break ++ l.empties

-- The value, from the breaks of the leading empty lines and the text lines. The leading empty lines are as after a line
-- with no text and no break.
abbrev pub block_value : Bool → chomp_t → List ℕ → List TextLine → List ℕ
block_value folded chomp leading ls =
    let a : TextLine = record { text = []; break = None; empties = leading } in
    joined folded a ls ++ chomped chomp (last_of a ls)

-- THE COLUMN OF THE TEXT LINES

-- the least column above the greatest open level, or 0 if none is open
abbrev pub above : Option ℕ → ℕ
above None = 0
above (Some level) = level + 1

-- The column that a digit sets for the text lines. It counts from the greatest open level, or from 0 if none is open.
abbrev pub set_indent : Option ℕ → Option ℕ → Option ℕ
set_indent level digit = option_map (λ d. unwrap_or level 0 + d) digit

-- The column of the text lines: the one that is set. If none is, the greatest of 1, the least column above the open
-- level, and the columns that spaces reach on the leading empty lines and on the line after them.
abbrev pub block_indent : Option ℕ → Option ℕ → ℕ → ℕ → ℕ
block_indent level (Some set) leading next = set
block_indent level None leading next = max (max 1 (above level)) (max leading next)

-- THE SCALAR

-- Header, leading empty lines, text lines; at `|` or `>`. The level is the greatest one that is open. The indentation
-- of the line after the scalar is read too.
unfoldable pub block : Bool → Option ℕ → Place → Read Scalar
block folded level p = do
  header ← header_at (skip 1 p)
  start ← after_line header.end
  let set = set_indent level header.value.digit
  leading ← many (empty_line set) start
  next ← after_indent set leading.end
  let indent = block_indent level set (greatest (map (λ b. b.column) leading.value)) next.mark.column
  lines ← many (text_line indent) leading.end
  end ← after_indent (Some indent) lines.end
  let value = block_value folded header.value.chomp (breaks_of leading.value) lines.value
  found (record { value = utf8 value; end = lines.end.mark; passed_break = false }) end

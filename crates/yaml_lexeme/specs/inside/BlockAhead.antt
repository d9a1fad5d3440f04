-- Literal and folded scalars, as the code reads them: the indentation of the line that follows is read with each line.
use Rattle.std.specs.Prelude.{ℕ, Bool, false, not, ◌&&◌, ◌||◌, if◌then◌else◌, List, [], ◌∷◌, ◌++◌, map, slice_index}
use Rattle.std.specs.Prelude.{Option, Some, ◌==◌, unwrap_or}
use Rattle.yaml_text.specs.declared.types.yaml_mark_t.{yaml_mark_t}
use Rattle.yaml_text.specs.Chars.{utf8}
use Rattle.yaml_text.specs.Classes.{is_blank}
use Rattle.yaml_lexeme.specs.declared.block.chomp_t.{chomp_t}
use Rattle.yaml_lexeme.specs.declared.block.chomp_t.TheVariants.{STRIP, CLIP, KEEP}
use Rattle.yaml_lexeme.specs.Lexeme.{Scalar}
use Rattle.yaml_lexeme.specs.Classes.{is_in_line}
use Rattle.yaml_lexeme.specs.Place.{Place, skip, run, after_run, break_len, first}
use Rattle.yaml_lexeme.specs.Reading.{Read, found, ◌>>=◌, Part, part, over, many}
use Rattle.yaml_lexeme.specs.Block.{header_at, after_line, after_indent, EmptyLine, empty_line, break_at}
use Rattle.yaml_lexeme.specs.Block.{is_text, or_none, is_line_feed, set_indent, block_indent, is_below}
use Rattle.yaml_lexeme.specs.Greatest.{greatest}
use Rattle.yaml_lexeme.specs.Fold.{or_space}

-- empty lines: the greatest column that spaces reach on them, their breaks, and the mark after them
pub record Blanks : Type 0 where
  pub column : ℕ
  pub breaks : List ℕ
  pub end : yaml_mark_t

abbrev pub blanks_of : List EmptyLine → yaml_mark_t → Blanks
blanks_of lines m = record { column = greatest (map (λ b. b.column) lines); breaks = map (λ b. b.break) lines; end = m }

-- as many empty lines as possible, and the indentation of the line that follows
unfoldable pub blank_lines : Option ℕ → Place → Read Blanks
blank_lines limit p =
    many (empty_line limit) p >>= λ lines.
    after_indent limit lines.end >>= λ next.
    found (blanks_of lines.value lines.end.mark) next

-- a text line, its break if it has one, and the breaks of the empty lines after it
pub record Line : Type 0 where
  pub text : List ℕ
  pub break : Option ℕ
  pub empties : List ℕ
  pub end : yaml_mark_t

-- A text line whose indentation is read. The indentation of the line that follows is read with it.
unfoldable pub line_at : ℕ → Place → Read Line
line_at indent p =
    let q = after_run is_in_line p in
    blank_lines (Some indent) (skip (break_len q) q) >>= λ blanks.
    found (record {
      text = run is_in_line p;
      break = break_at q;
      empties = blanks.value.breaks;
      end = blanks.value.end;
    }) blanks.end

unfoldable pub text_line : ℕ → Place → Part Line
text_line indent p =
    if is_text indent p then (line_at indent p >>= λ l. part l.value l.end) else over

-- folding does not touch a line that begins with a blank
abbrev pub is_more_indented : Line → Bool
is_more_indented l = is_blank (slice_index l.text 0)

-- what is between two text lines
abbrev pub between : Bool → Line → Line → List ℕ
between folded a b =
    if (folded && is_line_feed a.break) && not (is_more_indented a || is_more_indented b) then or_space a.empties
    else or_none a.break ++ a.empties

-- what comes after the last text line
abbrev pub chomped : chomp_t → Line → List ℕ
chomped STRIP l = []
chomped CLIP l = or_none l.break
chomped KEEP l = or_none l.break ++ l.empties

-- what comes after a text line, given those that follow
abbrev pub value_after : Bool → chomp_t → Line → List Line → List ℕ
value_after folded chomp a [] = chomped chomp a
value_after folded chomp a (b ∷ ls) = between folded a b ++ b.text ++ value_after folded chomp b ls

abbrev pub only_breaks : chomp_t → List ℕ → List ℕ
only_breaks STRIP breaks = []
only_breaks CLIP breaks = []
only_breaks KEEP breaks = breaks

-- the value, from the breaks of the leading empty lines and the text lines
abbrev pub block_value : Bool → chomp_t → List ℕ → List Line → List ℕ
block_value folded chomp leading [] = only_breaks chomp leading
block_value folded chomp leading (l ∷ ls) = leading ++ l.text ++ value_after folded chomp l ls

abbrev pub end_of : yaml_mark_t → List Line → yaml_mark_t
end_of m [] = m
end_of m (l ∷ ls) = end_of l.end ls

-- Header, leading empty lines, text lines; at `|` or `>`. The level is the greatest one that is open.
unfoldable pub block_ahead : Bool → Option ℕ → Place → Read Scalar
block_ahead folded level p = do
  header ← header_at (skip 1 p)
  start ← after_line header.end
  let set = set_indent level header.value.digit
  leading ← blank_lines set start
  lines ← many (text_line (block_indent level set leading.value.column leading.end.mark.column)) leading.end
  let value = utf8 (block_value folded header.value.chomp leading.value.breaks lines.value)
  found (record { value = value; end = end_of leading.value.end lines.value; passed_break = false }) lines.end

-- c is at a place where a space could be indentation
abbrev pub is_indenting : ℕ → Option ℕ → Place → Bool
is_indenting c limit p = first p == c && is_below limit p.mark.column

-- the greatest open level, or 0 if none is open
abbrev pub base : Option ℕ → ℕ
base level = unwrap_or level 0

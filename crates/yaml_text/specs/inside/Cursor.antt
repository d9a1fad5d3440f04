-- The cursor that counts marks: where it is in the bytes of a text.
use Rattle.std.specs.Prelude.{ℕ, ◌≡◌, ◌-◌, ◌≤◌, Bool, false, ◌&&◌, not, nat_le, nat_lt, List, ◌++◌, length}
use Rattle.std.specs.Prelude.{take, drop, slice_index, if◌then◌else◌}
use Rattle.std.specs.Str.{chars}
use Rattle.yaml_text.specs.TextBytes.{IsText}
use Rattle.yaml_text.specs.Classes.{is_break, is_crlf}
use Rattle.yaml_text.specs.ClassCalls.{is_crlf_at}
use Rattle.yaml_text.specs.Mark.{break_count, column, cuts_break}
use Rattle.yaml_text.specs.Utf8.{continues}
use Rattle.yaml_text.specs.declared.types.yaml_mark_t.{yaml_mark_t}

-- A place in a text: what is before it, and what is left.
pub record At : Type 0 where
  pub before : List ℕ
  pub left : List ℕ

-- n characters further
abbrev pub past : ℕ → At → At
past n at = record { before = at.before ++ take n at.left; left = drop n at.left }

-- how many characters the break at the beginning has
abbrev pub first_break_len : List ℕ → ℕ
first_break_len left = if is_crlf (slice_index left 0) (slice_index left 1) then 2 else 1

-- The mark is in the bytes of a text.
pub record IsAt (bytes : List ℕ) (mark : yaml_mark_t) : Type 0 where
  pub within : mark.index ≤ length bytes
  pub front : IsText (take mark.index bytes)
  pub rest : IsText (drop mark.index bytes)
  pub line : mark.line ≡ break_count (chars (take mark.index bytes))
  pub column : mark.column ≡ column (chars (take mark.index bytes))
  pub whole : cuts_break (chars (take mark.index bytes)) (chars (drop mark.index bytes)) ≡ false

-- the place of a mark in the bytes of a text
abbrev pub at_of : List ℕ → yaml_mark_t → At
at_of bytes mark = record { before = chars (take mark.index bytes); left = chars (drop mark.index bytes) }

-- how many characters are between a place and the next one
abbrev pub step_len : List ℕ → ℕ
step_len left = if is_break (slice_index left 0) then first_break_len left else 1

-- whether an index is that of a place, by the bytes: it is not within a character or a CR LF
abbrev pub is_place_by : List ℕ → ℕ → Bool
is_place_by bytes index =
    (nat_le index (length bytes) && not (continues (slice_index bytes index)))
    && not (nat_lt 0 index && is_crlf_at bytes (index - 1))

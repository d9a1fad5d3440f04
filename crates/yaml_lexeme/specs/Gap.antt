-- What is between lexemes (YAML 1.1, 6.2 Comments and 6.3 Separation Spaces).
use Rattle.std.specs.Prelude.{ℕ, zero, suc, length, Bool, not, ◌&&◌, ◌||◌, ◌==◌, nat_lt, if◌then◌else◌}
use Rattle.yaml_lexeme.specs.Classes.{is_in_line}
use Rattle.yaml_lexeme.specs.Place.{Place, first, skip, after_run, break_len}

abbrev pub byte_order_mark : ℕ
byte_order_mark = 0xFEFF

-- spaces, and tabs if these are allowed
abbrev pub is_gap_blank : Bool → ℕ → Bool
is_gap_blank tabs c = c == 0x20 || (c == 0x09 && tabs)

-- after a byte order mark, if there is one at the start of a line
abbrev pub after_mark : Place → Place
after_mark p = if p.mark.column == 0 && first p == byte_order_mark then skip 1 p else p

-- after a comment, which goes on to the end of its line
abbrev pub after_comment : Place → Place
after_comment p = if first p == 0x23 then after_run is_in_line p else p

-- after a gap line, without its break
unfoldable pub after_gap_line : Bool → Place → Place
after_gap_line tabs p = after_comment (after_run (is_gap_blank tabs) (after_mark p))

-- After at most n more gap lines, each after a break. The place is after a gap line.
unfoldable pub after_gap_lines : ℕ → Bool → Place → Place
after_gap_lines zero flow p = p
after_gap_lines (suc n) flow p =
    if break_len p == 0 then p else after_gap_lines n flow (after_gap_line flow (skip (break_len p) p))

-- Gap lines joined by breaks, as long as possible: the place after them, and whether a break is in them. Tabs
-- are allowed in flow, and on the first line if no key is allowed.
unfoldable pub gap : Bool → Bool → Place → Place × Bool
gap flow allowed p =
    let line = after_gap_line (flow || not allowed) p in
    (after_gap_lines (length line.rest) flow line, nat_lt 0 (break_len line))

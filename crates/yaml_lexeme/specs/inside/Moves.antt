-- How a mark moves over a character, by the one character after it, and a place over what is left of a line.
use Rattle.std.specs.Prelude.{ℕ, ◌≡◌, ◌<◌, ◌+◌, Bool, true, not, ◌&&◌, ◌||◌, ◌==◌, if◌then◌else◌, List, length}
use Rattle.std.specs.Prelude.{slice_index, take, drop}
use Rattle.std.specs.Char.{len_utf8}
use Rattle.yaml_text.specs.declared.types.yaml_mark_t.{yaml_mark_t}
use Rattle.yaml_text.specs.Classes.{is_break, is_crlf}
use Rattle.yaml_text.specs.MarkOn.{mark_on}
use Rattle.yaml_text.specs.Chars.{utf8}
use Rattle.yaml_lexeme.specs.Block.{next_line}
use Rattle.yaml_lexeme.specs.Classes.{is_in_line}
use Rattle.yaml_lexeme.specs.Place.{Place, first, peek, run, after_run, break_len, skip}

-- a break ends after c, which `next` follows: CR LF is one break
abbrev pub ends_line : ℕ → ℕ → Bool
ends_line c next = is_break c && not (is_crlf c next)

-- the break that begins with c, which `next` follows, ends with a line feed
abbrev pub is_feed : ℕ → ℕ → Bool
is_feed c next = c == 0x0A || is_crlf c next

-- the mark after c
abbrev pub mark_after : yaml_mark_t → ℕ → ℕ → yaml_mark_t
mark_after m c next =
    if ends_line c next then record { index = m.index + len_utf8 c; line = m.line + 1; column = 0 }
    else record { index = m.index + len_utf8 c; line = m.line; column = m.column + 1 }

-- after the break that is here, if there is one
abbrev pub past_break : Place → Place
past_break p = skip (break_len p) p

-- the place n characters on, from this mark and these characters
abbrev pub skip_from : ℕ → yaml_mark_t → List ℕ → Place
skip_from n m cs = record { mark = mark_on n m cs; rest = drop n cs }

-- how many of these bytes a line feed takes that is first, alone or after a carriage return, or 0
abbrev pub feed_width : List ℕ → ℕ
feed_width bytes =
    if slice_index bytes 0 == 0x0A then 1 else if is_crlf (slice_index bytes 0) (slice_index bytes 1) then 2 else 0

-- The line at p ends with a line feed, alone or after a carriage return, n bytes on, and q is the place after it.
pub record FedLine (n : ℕ) (p q : Place) : Type 0 where
  pub within : n < length (utf8 p.rest)
  pub text : take n (utf8 p.rest) ≡ utf8 (run is_in_line p)
  pub fed : let end = after_run is_in_line p in is_feed (first end) (peek end 1) ≡ true
  pub end : q ≡ next_line p

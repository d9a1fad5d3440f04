-- A place is a mark and the characters from it on.
use Rattle.std.specs.Prelude.{ℕ, Bool, if◌then◌else◌, List, drop, slice_index}
use Rattle.std.specs.List.{prefix_len, take_while}
use Rattle.yaml_text.specs.declared.types.yaml_mark_t.{yaml_mark_t}
use Rattle.yaml_text.specs.Classes.{is_break, is_crlf}
use Rattle.yaml_text.specs.Fault.{zero_mark}
use Rattle.yaml_text.specs.MarkOn.{mark_on}

pub record Place : Type 0 where
  pub mark : yaml_mark_t
  pub rest : List ℕ

abbrev pub start : List ℕ → Place
start text = record { mark = zero_mark; rest = text }

-- the character k places on, or 0 past the end
abbrev pub peek : Place → ℕ → ℕ
peek p k = slice_index p.rest k

abbrev pub first : Place → ℕ
first p = peek p 0

-- the place n characters on, or the end
unfoldable pub skip : ℕ → Place → Place
skip n p = record { mark = mark_on n p.mark p.rest; rest = drop n p.rest }

-- the place after the first n characters of a text
abbrev pub place_at : List ℕ → ℕ → Place
place_at text n = skip n (start text)

-- how many characters the break at a place takes, and 0 if there is none
abbrev pub break_len : Place → ℕ
break_len p = if is_crlf (first p) (peek p 1) then 2 else if is_break (first p) then 1 else 0

-- the longest run of characters that pass: how many, which, and the place after them
abbrev pub run_len : (ℕ → Bool) → Place → ℕ
run_len test p = prefix_len test p.rest

abbrev pub run : (ℕ → Bool) → Place → List ℕ
run test p = take_while test p.rest

abbrev pub after_run : (ℕ → Bool) → Place → Place
after_run test p = skip (run_len test p) p

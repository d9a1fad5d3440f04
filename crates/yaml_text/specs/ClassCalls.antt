-- What the calls that test bytes for a class return: more classes of characters, and of the bytes that begin with one.
use Rattle.std.specs.Prelude.{ℕ, ◌≡◌, ◌+◌, ◌-◌, ◌≤◌, ◌⊎◌, Bool, ◌||◌, ◌&&◌, nat_le, nat_lt, not, ◌==◌, if◌then◌else◌}
use Rattle.std.specs.Prelude.{List, ◌++◌, length, drop, slice_index, encode_utf8}
use Rattle.std.specs.Char.{IsScalar}
use Rattle.yaml_text.specs.Chars.{is_within}
use Rattle.yaml_text.specs.Classes.{is_z, is_blank, is_break, is_crlf}

-- CHARACTERS

-- A character of ASCII.
abbrev pub is_ascii : ℕ → Bool
is_ascii c = nat_le c 0x7F

-- What can be shown.
abbrev pub is_printable : ℕ → Bool
is_printable c =
    c == 10 || (is_within 0x20 0x7E c || (is_within 0xA0 0xD7FF c
    || ((is_within 0xE000 0xFFFD c && not (c == 0xFEFF)) || is_within 0x10000 0x10FFFF c)))

-- A byte order mark.
abbrev pub is_bom : ℕ → Bool
is_bom c = c == 0xFEFF

-- A break or the end, and also a blank.
abbrev pub is_breakz : ℕ → Bool
is_breakz c = is_break c || is_z c

abbrev pub is_blankz : ℕ → Bool
is_blankz c = is_blank c || is_breakz c

-- The value of a hexadecimal digit, of which the decimal ones are the first ten.
abbrev pub hex_value : ℕ → ℕ
hex_value c = if nat_lt c 0x41 then c - 0x30 else if nat_lt c 0x61 then c - 0x37 else c - 0x57

-- BYTES. A class as a test of the first bytes a b c, if more than one counts. Past the end a byte reads as 0.

abbrev pub is_break_by : ℕ → ℕ → ℕ → Bool
is_break_by a b c =
    a == 13 || (a == 10 || ((a == 0xC2 && b == 0x85)
    || (a == 0xE2 && (b == 0x80 && (c == 0xA8 || c == 0xA9)))))

abbrev pub is_bom_by : ℕ → ℕ → ℕ → Bool
is_bom_by a b c = a == 0xEF && (b == 0xBB && c == 0xBF)

abbrev pub is_printable_by : ℕ → ℕ → ℕ → Bool
is_printable_by a b c =
    a == 10 || (is_within 0x20 0x7E a || ((a == 0xC2 && is_within 0xA0 0xBF b)
    || (is_within 0xC3 0xEC a || ((a == 0xED && nat_le b 0x9F) || (a == 0xEE
    || ((a == 0xEF && (not (b == 0xBB && c == 0xBF) && not (b == 0xBF && (c == 0xBE || c == 0xBF))))
    || is_within 0xF0 0xF4 a))))))

-- A test of the bytes at a place.
abbrev pub by_bytes : (ℕ → ℕ → ℕ → Bool) → List ℕ → ℕ → Bool
by_bytes test s at = test (slice_index s at) (slice_index s (at + 1)) (slice_index s (at + 2))

abbrev pub is_break_at : List ℕ → ℕ → Bool
is_break_at s at = by_bytes is_break_by s at

abbrev pub is_bom_at : List ℕ → ℕ → Bool
is_bom_at s at = by_bytes is_bom_by s at

abbrev pub is_printable_at : List ℕ → ℕ → Bool
is_printable_at s at = by_bytes is_printable_by s at

abbrev pub is_crlf_at : List ℕ → ℕ → Bool
is_crlf_at s at = is_crlf (slice_index s at) (slice_index s (at + 1))

abbrev pub is_breakz_at : List ℕ → ℕ → Bool
is_breakz_at s at = is_break_at s at || is_z (slice_index s at)

abbrev pub is_blankz_at : List ℕ → ℕ → Bool
is_blankz_at s at = is_blank (slice_index s at) || is_breakz_at s at

-- UTF-8 spells the character c at the place, whatever follows it. At the end and past it the character is 0.
abbrev pub Stands : List ℕ → ℕ → ℕ → Type 0
Stands s at c = (IsScalar c × (more : List ℕ) × (drop at s ≡ encode_utf8 c ++ more)) ⊎ ((length s ≤ at) × (c ≡ 0))

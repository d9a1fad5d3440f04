-- The escapes that the code looks for first.
use Rattle.std.specs.Prelude.{ℕ, ◌≡◌, ◌<◌, Bool, false, ◌||◌, ◌==◌, nat_lt, if◌then◌else◌, Option}
use Rattle.std.specs.Option.{option_map, unwrap_or}
use Rattle.std.specs.Char.{digit_value}
use Rattle.yaml_lexeme.specs.Escape.{simple_escape, hex_escape}
use Rattle.yaml_lexeme.specs.declared.problem.yaml_problem_t.TheVariants.{UNKNOWN_ESCAPE}
use Rattle.yaml_lexeme.specs.Place.{Place, peek, skip}
use Rattle.yaml_lexeme.specs.Reading.{Read, found, refuse}

-- those that give a line feed, a tab, or the character that is written
abbrev pub is_common : ℕ → Bool
is_common c = unwrap_or (option_map (λ d. d == 0x0A || (d == 0x09 || d == c)) (simple_escape c)) false

-- the byte that an escape of one character gives, or 0
abbrev pub byte_escape : ℕ → ℕ
byte_escape c = unwrap_or (option_map (λ d. if nat_lt d 0x80 then d else 0) (simple_escape c)) 0

-- a byte is a hex digit of this value
abbrev pub IsDigit : ℕ → ℕ → Type 0
IsDigit b d = (b < 0x80) × (d ≡ digit_value b)

-- The four characters at p are hex digits, and spell c.
abbrev pub SpellsFour : Place → ℕ → Type 0
SpellsFour p c = (hex_escape 4 p ≡ found c (skip 4 p)) × ((i : ℕ) → i < 4 → digit_value (peek p i) < 16)

-- the character that an escape of one character gives, if it gives one
abbrev pub simple_at : Option ℕ → Place → Read ℕ
simple_at gives p = unwrap_or (option_map (λ c. found c (skip 2 p)) gives) (refuse UNKNOWN_ESCAPE p)

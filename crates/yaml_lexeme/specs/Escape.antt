-- Escapes in double quotes (YAML 1.1, 5.6 Escape Sequences).
use Rattle.std.specs.Prelude.{ℕ, not, ◌&&◌, ◌||◌, ◌==◌, nat_lt, if◌then◌else◌, length, take, Option}
use Rattle.std.specs.Prelude.{Some, None, option_map, unwrap_or}
use Rattle.std.specs.List.{list_all}
use Rattle.std.specs.Str.Parse.{digits_value}
use Rattle.yaml_text.specs.Classes.{is_hex}
use Rattle.yaml_text.specs.Utf8.{is_scalar}
use Rattle.yaml_lexeme.specs.declared.problem.yaml_problem_t.TheVariants.{UNKNOWN_ESCAPE, NO_HEX_DIGIT, NO_SCALAR_VALUE}
use Rattle.yaml_lexeme.specs.Place.{Place, peek, skip}
use Rattle.yaml_lexeme.specs.Reading.{Read, found, refuse}

abbrev pub backslash : ℕ
backslash = 0x5C

-- the character that an escape of one character gives, by the one after the backslash
abbrev pub simple_escape : ℕ → Option ℕ
simple_escape c =
    if c == 0x30 then Some 0x00
    else if c == 0x61 then Some 0x07
    else if c == 0x62 then Some 0x08
    else if c == 0x74 || c == 0x09 then Some 0x09
    else if c == 0x6E then Some 0x0A
    else if c == 0x76 then Some 0x0B
    else if c == 0x66 then Some 0x0C
    else if c == 0x72 then Some 0x0D
    else if c == 0x65 then Some 0x1B
    else if c == 0x20 || (c == 0x22 || (c == 0x2F || c == 0x5C)) then Some c
    else if c == 0x4E then Some 0x85
    else if c == 0x5F then Some 0xA0
    else if c == 0x4C then Some 0x2028
    else if c == 0x50 then Some 0x2029
    else None

-- how many hex digits follow `x`, `u` and `U`
abbrev pub hex_len : ℕ → ℕ
hex_len c = if c == 0x78 then 2 else if c == 0x75 then 4 else if c == 0x55 then 8 else 0

-- n hex digits that spell a character
unfoldable pub hex_escape : ℕ → Place → Read ℕ
hex_escape n p =
    let digits = take n p.rest in
    if not (length digits == n && list_all is_hex digits) then refuse NO_HEX_DIGIT p
    else if not (is_scalar (digits_value 16 digits)) then refuse NO_SCALAR_VALUE p
    else found (digits_value 16 digits) (skip n p)

-- the character of the escape at a backslash
unfoldable pub escape : Place → Read ℕ
escape p =
    if nat_lt 0 (hex_len (peek p 1)) then hex_escape (hex_len (peek p 1)) (skip 2 p)
    else unwrap_or (option_map (λ c. found c (skip 2 p)) (simple_escape (peek p 1))) (refuse UNKNOWN_ESCAPE p)

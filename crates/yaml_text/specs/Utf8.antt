-- UTF-8: octets of which the first says how many follow. How a character is spelled is std's `encode_utf8`.
use Rattle.std.specs.Prelude.{ℕ, suc, ◌+◌, ◌*◌, ◌%◌, pos, negsuc, Bool, ◌||◌, nat_lt, ◌==◌, not, if◌then◌else◌}
use Rattle.std.specs.Prelude.{List, length, take, drop, slice_index, Option, option_map, unwrap_or}
use Rattle.std.specs.Char.{len_utf8}
use Rattle.std.specs.List.{position}
use Rattle.yaml_text.specs.Chars.{is_within}
use Rattle.yaml_text.specs.Offence.{offence_at}
use Rattle.yaml_text.specs.declared.offence.problem_t.TheVariants.{LEAD, SHORT, TRAIL, LENGTH, VALUE, CONTROL}
use Rattle.yaml_text.specs.declared.offence.offence_t.{offence_t}

-- How many octets a character that begins with this one takes, and 0 if none begins with it.
abbrev pub width_of : ℕ → ℕ
width_of b =
    if nat_lt b 0x80 then 1
    else if nat_lt b 0xC0 then 0
    else if nat_lt b 0xE0 then 2
    else if nat_lt b 0xF0 then 3
    else if nat_lt b 0xF8 then 4
    else 0

-- An octet after a first one.
abbrev pub continues : ℕ → Bool
continues b = is_within 0x80 0xBF b

-- Of the first `width` octets, the place of the first one after the lead that is no continuation, if one is none.
unfoldable pub stray_at : ℕ → List ℕ → Option ℕ
stray_at width bytes = option_map suc (position (λ b. not (continues b)) (drop 1 (take width bytes)))

-- The value that a lead and its continuations have.
unfoldable pub value_of : ℕ → List ℕ → ℕ
value_of width bytes =
    let b = slice_index bytes 0 in
    let c = slice_index bytes 1 % 64 in
    let d = slice_index bytes 2 % 64 in
    let e = slice_index bytes 3 % 64 in
    if width == 1 then b
    else if width == 2 then b % 32 * 64 + c
    else if width == 3 then b % 16 * 4096 + c * 64 + d
    else b % 8 * 262144 + c * 4096 + d * 64 + e

-- The value that the first octets have.
abbrev pub value8 : List ℕ → ℕ
value8 bytes = value_of (width_of (slice_index bytes 0)) bytes

-- No surrogate, and not past the last code point.
abbrev pub is_scalar : ℕ → Bool
is_scalar c = nat_lt c 0xD800 || is_within 0xE000 0x10FFFF c

-- What is wrong with the value of `width` octets, if it is no character's: fewer octets could spell it, or it is no
-- scalar value, or it is a control character.
abbrev pub offence_of_value : ℕ → ℕ → offence_t
offence_of_value width value =
    if nat_lt (len_utf8 value) width then offence_at LENGTH 0 (negsuc 0)
    else if not (is_scalar value) then offence_at VALUE 0 (pos value)
    else offence_at CONTROL 0 (pos value)

-- The octet at this place is no continuation.
abbrev pub offence_of_stray : List ℕ → ℕ → offence_t
offence_of_stray bytes at = offence_at TRAIL at (pos (slice_index bytes at))

-- What is wrong with bytes that begin with no character: the lead, then how many octets there are, then the
-- continuations, and then the value.
unfoldable pub offence8 : List ℕ → offence_t
offence8 bytes =
    let b = slice_index bytes 0 in
    let width = width_of b in
    let stray = option_map (offence_of_stray bytes) (stray_at width bytes) in
    if width == 0 then offence_at LEAD 0 (pos b)
    else if nat_lt (length bytes) width then offence_at SHORT 0 (negsuc 0)
    else unwrap_or stray (offence_of_value width (value_of width bytes))

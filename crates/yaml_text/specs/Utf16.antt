-- UTF-16: units of two bytes, and pairs of units (surrogates).
use Rattle.std.specs.Prelude.{ℕ, ◌+◌, ◌-◌, ◌*◌, ◌/◌, ◌%◌, pos, negsuc, Bool, ◌&&◌, nat_lt, not}
use Rattle.std.specs.Prelude.{if◌then◌else◌, List, [], ◌∷◌, ◌++◌, length, slice_index}
use Rattle.std.specs.List.{flat_map}
use Rattle.yaml_text.specs.Chars.{is_within}
use Rattle.yaml_text.specs.Offence.{offence_at}
use Rattle.yaml_text.specs.declared.offence.problem_t.TheVariants.{HALF_UNIT, LOW_UNIT, HALF_PAIR, NO_LOW_UNIT, CONTROL}
use Rattle.yaml_text.specs.declared.offence.offence_t.{offence_t}

-- The two bytes of a unit, the high one first or last.
abbrev pub unit : Bool → ℕ → List ℕ
unit big u = if big then (u / 256) ∷ (u % 256) ∷ [] else (u % 256) ∷ (u / 256) ∷ []

-- The unit, or the pair of units, of a character.
unfoldable pub spelling16 : Bool → ℕ → List ℕ
spelling16 big c =
    if nat_lt c 0x10000 then unit big c
    else unit big (0xD800 + (c - 0x10000) / 1024) ++ unit big (0xDC00 + (c - 0x10000) % 1024)

-- The UTF-16 of these characters.
abbrev pub utf16 : Bool → List ℕ → List ℕ
utf16 big cs = flat_map (spelling16 big) cs

abbrev pub unit_of : Bool → ℕ → ℕ → ℕ
unit_of big a b = if big then a * 256 + b else b * 256 + a

-- The unit at a place.
abbrev pub unit_at : Bool → List ℕ → ℕ → ℕ
unit_at big bytes at = unit_of big (slice_index bytes at) (slice_index bytes (at + 1))

-- The second unit of a pair.
abbrev pub is_low : ℕ → Bool
is_low u = is_within 0xDC00 0xDFFF u

-- The first unit of a pair.
abbrev pub is_high : ℕ → Bool
is_high u = is_within 0xD800 0xDBFF u

-- The value of a pair.
abbrev pub pair_of : ℕ → ℕ → ℕ
pair_of u v = 0x10000 + (u - 0xD800) * 1024 + (v - 0xDC00)

-- The value that the first unit or pair has.
unfoldable pub value16 : Bool → List ℕ → ℕ
value16 big bytes =
    if is_high (unit_at big bytes 0) then pair_of (unit_at big bytes 0) (unit_at big bytes 2)
    else unit_at big bytes 0

-- What is wrong with bytes that begin with no character: the first of these tests that fits. Every pair is a character.
unfoldable pub offence16 : Bool → List ℕ → offence_t
offence16 big bytes =
    let u = unit_at big bytes 0 in
    let v = unit_at big bytes 2 in
    if nat_lt (length bytes) 2 then offence_at HALF_UNIT 0 (negsuc 0)
    else if is_low u then offence_at LOW_UNIT 0 (pos u)
    else if is_high u && nat_lt (length bytes) 4 then offence_at HALF_PAIR 0 (negsuc 0)
    else if is_high u && not (is_low v) then offence_at NO_LOW_UNIT 2 (pos v)
    else offence_at CONTROL 0 (pos u)

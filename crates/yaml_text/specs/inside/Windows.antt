-- Four bytes in a row, at each of many places at once: a place is clean if its tests succeed. Where every place is
-- clean, the bytes are whole characters from the first of them on.
use Rattle.std.specs.Prelude.{ℕ, ◌≡◌, ◌<◌, Bool, ◌&&◌, ◌||◌, nat_lt, nat_le, ◌==◌, not, if◌then◌else◌, true, false}
use Rattle.std.specs.Prelude.{List, map, drop, slice_index}
use Rattle.yaml_text.specs.Utf8.{continues}

-- An ASCII control that no text holds.
abbrev pub is_control : ℕ → Bool
is_control a = (nat_lt a 0x20 && (not (a == 10) && (not (a == 9) && not (a == 13)))) || a == 0x7F

-- One of the two.
abbrev pub differ : Bool → Bool → Bool
differ a b = if a then not b else b

-- No octet that may begin a character, or one that does not before this second one. Some characters are among them that
-- are seldom used: 0x85, those from 0xFFC0 to 0xFFFD and those from 0x100000 on.
abbrev pub is_rare_lead : ℕ → ℕ → Bool
is_rare_lead a b =
    ((a == 0xC0 || a == 0xC1) || nat_lt 0xF3 a)
    || (((a == 0xC2 || (a == 0xE0 || a == 0xED)) && differ (nat_lt b 0xA0) (a == 0xED))
    || ((a == 0xEF && b == 0xBF) || (a == 0xF0 && nat_lt b 0x90)))

-- Whether an octet after these three has to continue a character.
abbrev pub is_awaited : ℕ → ℕ → ℕ → Bool
is_awaited a b c = nat_le 0xC0 c || (nat_le 0xE0 b || nat_le 0xF0 a)

-- The octet d continues a character and should not, or should and does not.
abbrev pub is_misplaced : ℕ → ℕ → ℕ → ℕ → Bool
is_misplaced a b c d = differ (continues d) (is_awaited a b c)

-- One of the tests of the first four bytes fails. Past the end a byte reads as 0.
abbrev pub is_suspect : List ℕ → Bool
is_suspect t =
    is_control (slice_index t 0)
    || (is_rare_lead (slice_index t 0) (slice_index t 1)
    || is_misplaced (slice_index t 0) (slice_index t 1) (slice_index t 2) (slice_index t 3))

-- The first n places are clean.
abbrev pub AreClean : List ℕ → ℕ → Type 0
AreClean bytes n = (k : ℕ) → k < n → is_suspect (drop k bytes) ≡ false

-- An octet below 0xE0 that is no control of ASCII below 0x20, but for the line feed.
abbrev pub is_bounded : ℕ → Bool
is_bounded a = nat_lt a 0xE0 && (nat_le 0x20 a || a == 10)

-- The octet a may stand before b: a lead from 0xC3 on before one that continues a character, and no lead before
-- another. 0x7F, which no text holds, is left out.
abbrev pub is_paired : ℕ → ℕ → Bool
is_paired a b = (if continues b then nat_le 0xC3 a else nat_lt a 0xC0) && not (a == 0x7F)

-- The first two octets may stand so in characters of one and two octets. Tab, carriage return and the characters that
-- 0xC2 begins are left out.
abbrev pub is_narrow : List ℕ → Bool
is_narrow t = is_bounded (slice_index t 0) && is_paired (slice_index t 0) (slice_index t 1)

-- The first n octets are narrow.
abbrev pub AreNarrow : List ℕ → ℕ → Type 0
AreNarrow bytes n = (k : ℕ) → k < n → is_narrow (drop k bytes) ≡ true

-- The first three bytes are as after a whole character.
pub record Starts (bytes : List ℕ) : Type 0 where
  pub first : continues (slice_index bytes 0) ≡ false
  pub second : continues (slice_index bytes 1) ≡ is_awaited 0 0 (slice_index bytes 0)
  pub third : continues (slice_index bytes 2) ≡ is_awaited 0 (slice_index bytes 0) (slice_index bytes 1)

-- The byte d places on, at each of many places.
abbrev pub column : ℕ → List (List ℕ) → List ℕ
column d ts = map (λ t. slice_index t d) ts

-- The lanes of a mask: all ones where the test succeeds.
abbrev pub lanes : (List ℕ → Bool) → List (List ℕ) → List ℕ
lanes p ts = map (λ t. if p t then 255 else 0) ts

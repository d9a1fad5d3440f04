-- Bytes that are characters by themselves, which are looked for first.
use Rattle.std.specs.Prelude.{ℕ, Bool, ◌||◌, ◌==◌, not}
use Rattle.yaml_text.specs.Chars.{is_within}

-- A byte that is a character by itself.
abbrev pub is_single : ℕ → Bool
is_single b = is_within 0x20 0x7E b || (b == 9 || (b == 10 || b == 13))

-- every other byte
abbrev pub is_other : ℕ → Bool
is_other b = not (is_single b)

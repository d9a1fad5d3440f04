-- A character of a text is a scalar value, and not 0.
use Rattle.std.proofs.Common.{◌≡◌, ℕ, ◌<◌, ◌≤◌, ◌⊎◌, true, arith}
use Rattle.std.proofs.lemmas.Bool.Decides.{nat_tests}
use Rattle.yaml_text.specs.Chars.{is_char}

pub char_range : (c : ℕ) → is_char c ≡ true → (0 < c) × ((c < 0xD800) ⊎ ((0xE000 ≤ c) × (c < 0x110000)))
unfolding is_char
char_range c e = grind (arith, nat_tests)

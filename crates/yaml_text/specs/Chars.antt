-- The characters of a text (YAML 1.1, section 5.1), and texts as the bytes of their UTF-8.
use Rattle.std.specs.Prelude.{ℕ, Bool, ◌||◌, ◌&&◌, nat_le, ◌==◌, List, encode_utf8_all}

abbrev pub is_within : ℕ → ℕ → ℕ → Bool
is_within lo hi c = nat_le lo c && nat_le c hi

-- The characters that a text may hold.
unfoldable pub is_char : ℕ → Bool
is_char c =
    is_within 0x20 0x7E c || (c == 9 || (c == 10 || (c == 13 || (c == 0x85
    || (is_within 0xA0 0xD7FF c || (is_within 0xE000 0xFFFD c || is_within 0x10000 0x10FFFF c))))))

-- The UTF-8 of these characters.
abbrev pub utf8 : List ℕ → List ℕ
utf8 cs = encode_utf8_all cs

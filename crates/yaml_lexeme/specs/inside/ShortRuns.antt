-- Pieces in double quotes that are looked at as one vector.
use Rattle.std.specs.Prelude.{ℕ, ◌≡◌, Bool, true, not, ◌||◌, ◌==◌, nat_lt, List, take, slice_index}
use Rattle.std.specs.List.{prefix_len}
use Rattle.yaml_text.specs.Chars.{utf8}
use Rattle.yaml_lexeme.specs.declared.runs.class_t.TheVariants.{DOUBLE}
use Rattle.yaml_lexeme.specs.Place.{Place, first, run, after_run}
use Rattle.yaml_lexeme.specs.inside.Runs.{class_test}

-- a double quote or a backslash
abbrev pub is_mark : ℕ → Bool
is_mark b = b == 0x22 || b == 0x5C

-- A short piece ends at the byte: at a double quote or a backslash, a control character, or what is not ASCII.
abbrev pub ends : ℕ → Bool
ends b = is_mark b || (nat_lt b 0x20 || nat_lt 0x7F b)

-- The first n bytes need no closer look, and the byte after them is a quote or a backslash.
abbrev pub Short : List ℕ → ℕ → Type 0
Short bytes n = (n ≡ prefix_len (λ b. not (ends b)) bytes) × (is_mark (slice_index bytes n) ≡ true)

-- What double quotes keep unchanged in the line at p is n bytes, and a quote or a backslash follows them at q.
abbrev pub ShortRun : Place → Place → ℕ → Type 0
ShortRun p q n =
    (q ≡ after_run (class_test DOUBLE) p)
    × ((utf8 (run (class_test DOUBLE) p) ≡ take n (utf8 p.rest)) × (is_mark (first q) ≡ true))

-- Sets of characters that lexemes need, besides those of a text. The end of a text counts as character 0.
use Rattle.std.specs.Prelude.{ℕ, Bool, not, ◌||◌, ◌==◌, List}
use Rattle.std.specs.List.{list_any}
use Rattle.yaml_text.specs.Classes.{is_blank, is_break, is_z}

abbrev pub line_feed : ℕ
line_feed = 0x0A

-- the two breaks that a value keeps as themselves: line and paragraph separator (YAML 1.1, 5.4 Line Break
-- Characters)
abbrev pub is_kept_break : ℕ → Bool
is_kept_break c = c == 0x2028 || c == 0x2029

-- a blank or a break
abbrev pub is_white : ℕ → Bool
is_white c = is_blank c || is_break c

-- what precedes c ends here
abbrev pub ends : ℕ → Bool
ends c = is_white c || is_z c

-- neither a break nor the end
abbrev pub is_in_line : ℕ → Bool
is_in_line c = not (is_break c || is_z c)

abbrev pub is_one_of : List ℕ → ℕ → Bool
is_one_of cs c = list_any (λ x. x == c) cs

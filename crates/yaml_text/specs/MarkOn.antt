-- How a mark moves on: how far into a text a place is, and in which line and column (YAML 1.1, section 5.4).
use Rattle.std.specs.Char.{len_utf8}
use Rattle.std.specs.Prelude.{ℕ, zero, suc, ◌+◌, Bool, ◌&&◌, not, List, [], ◌∷◌, slice_index, if◌then◌else◌}
use Rattle.yaml_text.specs.Classes.{is_break, is_crlf}
use Rattle.yaml_text.specs.declared.types.yaml_mark_t.{yaml_mark_t}

-- A break ends at c, before the characters after: c is a break, and not the first half of CR LF.
abbrev pub ends_break : ℕ → List ℕ → Bool
ends_break c after = is_break c && not (is_crlf c (slice_index after 0))

-- The mark after one character c more, which the characters `after` follow.
abbrev pub mark_after : yaml_mark_t → ℕ → List ℕ → yaml_mark_t
mark_after m c after =
    if ends_break c after then record { index = m.index + len_utf8 c; line = m.line + 1; column = 0 }
    else record { index = m.index + len_utf8 c; line = m.line; column = m.column + 1 }

-- The mark after n characters more, moved character by character.
abbrev pub mark_on : ℕ → yaml_mark_t → List ℕ → yaml_mark_t
mark_on zero m cs = m
mark_on (suc n) m [] = m
mark_on (suc n) m (c ∷ cs) = mark_on n (mark_after m c cs) cs

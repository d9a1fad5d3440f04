-- How lexemes follow one another.
use Rattle.std.specs.Prelude.{◌≡◌, ℕ, ◌≤◌, ◌<◌, true, false, List, [], ◌∷◌}
use Rattle.yaml_text.specs.declared.types.yaml_mark_t.{yaml_mark_t}
use Rattle.yaml_scan.specs.Course.{ended}
use Rattle.yaml_scan.specs.Kind.{is_stream_end}
use Rattle.yaml_scan.specs.Laid.{Laid, reach, Lexeme}
use Rattle.yaml_scan.specs.Levels.{laid}

-- b is not before a
pub record IsNotBefore (a b : yaml_mark_t) : Type 0 where
  pub index : a.index ≤ b.index
  pub line : a.line ≤ b.line
  pub column : a.line ≡ b.line → a.column ≤ b.column

-- x follows what was read so far: its marks are in order, and it takes a byte, and a column if it stays on its line
pub record Follows (so_far : yaml_mark_t) (x : Lexeme) : Type 0 where
  pub gap_end : IsNotBefore so_far x.gap_end
  pub start : IsNotBefore x.gap_end x.start
  pub at_once : x.start.index ≡ x.gap_end.index
  pub end : IsNotBefore x.start x.end
  pub reach : IsNotBefore x.end x.reach
  pub takes_a_byte : is_stream_end x.kind ≡ false → x.start.index < x.end.index
  pub takes_a_column : is_stream_end x.kind ≡ false → x.start.line ≡ x.end.line → x.start.column < x.end.column
  pub ends_at_column_0 : is_stream_end x.kind ≡ true → x.start.column ≡ 0

-- each lexeme is laid by those before it, they follow one another, and none comes after a stream end
abbrev pub IsHistory : ℕ → List Laid → Type 0
IsHistory limit [] = Unit {0}
IsHistory limit (i ∷ H) = (i ≡ laid limit H i.lexeme) × Follows (reach H) i.lexeme × IsHistory limit H
    × (ended H ≡ false)

-- Cells of four bytes, one for each unit of UTF-16: three bytes, and how many of them spell the unit.
use Rattle.std.specs.Prelude.{ℕ, zero, suc, ◌+◌, ◌*◌, ◌≡◌, ◌<◌, ◌≤◌, encode_utf8}
use Rattle.std.specs.Prelude.{List, [], ◌∷◌, ◌++◌, take, drop, slice_index}

-- How many bytes of cell k count.
abbrev pub count_of : List ℕ → ℕ → ℕ
count_of cells k = slice_index cells (4 * k + 3)

-- The bytes that count of the first n cells.
abbrev pub packed : ℕ → List ℕ → List ℕ
packed zero cells = []
packed (suc n) cells = packed n cells ++ take (count_of cells n) (drop (4 * n) cells)

-- In no one of the first 16 cells more than three bytes count.
abbrev pub AreFew : List ℕ → Type 0
AreFew cells = (k : ℕ) → k < 16 → count_of cells k ≤ 3

-- These three bytes and this count make a cell that spells u.
pub record Spells (u a b c count : ℕ) : Type 0 where
  pub few : count ≤ 3
  pub bytes : take count (a ∷ b ∷ c ∷ []) ≡ encode_utf8 u

-- Cell k spells u.
pub record IsCellOf (u : ℕ) (cells : List ℕ) (k : ℕ) : Type 0 where
  pub few : count_of cells k ≤ 3
  pub bytes : take (count_of cells k) (drop (4 * k) cells) ≡ encode_utf8 u

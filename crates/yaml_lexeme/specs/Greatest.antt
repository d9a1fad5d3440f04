-- The greatest of some numbers.
use Rattle.std.specs.Prelude.{ℕ, max, List, [], ◌∷◌}

-- the greatest of these numbers, or 0
abbrev pub greatest : List ℕ → ℕ
greatest [] = 0
greatest (n ∷ ns) = max n (greatest ns)

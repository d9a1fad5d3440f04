-- Falling lists of columns.
use Rattle.std.specs.Prelude.{ℕ, ◌<◌, List, [], ◌∷◌}

abbrev pub AllLess : ℕ → List ℕ → Type 0
AllLess c [] = Unit {0}
AllLess c (l ∷ ls) = (l < c) × AllLess c ls

-- each column is greater than those that follow
abbrev pub IsFalling : List ℕ → Type 0
IsFalling [] = Unit {0}
IsFalling (l ∷ ls) = AllLess l ls × IsFalling ls

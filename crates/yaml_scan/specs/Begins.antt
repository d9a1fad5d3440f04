-- Beginnings of lists.
use Rattle.std.specs.Prelude.{◌≡◌, List, ◌++◌}

pub record Begins {A : Type 0} (xs ys : List A) : Type 0 where
  pub rest : List A
  pub is : ys ≡ xs ++ rest

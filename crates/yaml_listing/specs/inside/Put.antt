-- What is appended to bytes that grow.
use Rattle.std.specs.Prelude.{◌≡◌, ◌++◌, ◌∷◌, [], ◌+◌, ◌/◌, ◌%◌, ℕ, List, flat_map, Result, Ok, Err, codes}

-- the old bytes are a beginning of the new ones
pub record Grows (old new : List ℕ) : Type 0 where
  pub more : List ℕ
  pub is : new ≡ old ++ more

-- a text was appended to the old bytes, or memory was refused and they are still a beginning
abbrev pub Puts : {E : Type 0} → Result (Unit {0}) E → List ℕ → List ℕ → List ℕ → Type 0
Puts (Ok _) old text new = new ≡ old ++ text
Puts (Err _) old text new = Grows old new

-- the text of more parts, with a space before each
abbrev pub more_parts_text : List (List ℕ) → List ℕ
more_parts_text parts = flat_map (λ part. codes " " ++ part) parts

-- the two decimal digits of a number below 100
abbrev pub pair_text : ℕ → List ℕ
pair_text n = (48 + n / 10) ∷ (48 + n % 10) ∷ []

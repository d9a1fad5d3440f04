-- What holds of a room that a list covers.
use Rattle.std.specs.Prelude.{◌≡◌, ◌≤◌, ◌++◌, List, length, take, drop}
use Rattle.yaml_c.specs.Room.{covered}

-- if there is room for all of a list, it is at the beginning, and what follows it is unchanged
abbrev pub HoldsAll : Type 0 → Type 0
HoldsAll A = (xs room : List A) → length xs ≤ length room → covered xs room ≡ xs ++ drop (length xs) room

-- if there is not room for all of a list, the room holds a beginning of it
abbrev pub HoldsBeginning : Type 0 → Type 0
HoldsBeginning A = (xs room : List A) → length room ≤ length xs → covered xs room ≡ take (length room) xs

-- a room keeps its size
abbrev pub KeepsSize : Type 0 → Type 0
KeepsSize A = (xs room : List A) → length (covered xs room) ≡ length room

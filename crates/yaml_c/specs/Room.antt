-- Room that a caller gives, and what is written into it.
use Rattle.std.specs.Prelude.{ℕ, ◌++◌, List, length, take, drop}

-- A room of which a list covers the beginning: as much of the list as there is room for, and after it what was there
-- before.
abbrev pub covered : {A : Type 0} → List A → List A → List A
covered xs room = take (length room) xs ++ drop (length xs) room

-- A room that is covered from a place on, if it has that place.
abbrev pub covered_from : {A : Type 0} → ℕ → List A → List A → List A
covered_from at xs room = take at room ++ covered xs (drop at room)

-- How places move, and cursors with them.

-- How a place moves by characters, runs and breaks.
pub mod PlaceMoves
-- A cursor that moves on bytes moves as a place does on characters.
pub mod CursorMoves
-- What the first bytes of a text say of its first character.
pub mod FirstCharacters
-- A line that ends with a line feed is taken without a count of its characters.
pub mod FedLines
-- A cursor that moves on over a short piece moves as a place does.
pub mod ShortMoves
-- A table is held against a definition at each character of ASCII.
pub mod AsciiTables

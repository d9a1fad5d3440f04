-- Marks, and the places that have them.

-- How a mark moves over a character and over a break.
pub mod MarkMoves
-- Places by the index of their bytes: the next place after one.
pub mod MarkIndexes
-- The test of bytes that says where a text may be split is right.
pub mod MarkSplits
-- A mark that is moved character by character is the one that is counted; UTF-8 can be cut between characters.
pub mod MarkCounts
-- The last characters of a text, found by its bytes from the end back.
pub mod CharactersLeft

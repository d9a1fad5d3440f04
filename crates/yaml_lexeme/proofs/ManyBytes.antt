-- Many bytes at a time.

-- A lane of a vector is 255 exactly where a byte is the given one.
pub mod VectorLanes
-- What the mask of a vector of bytes says of their run, and of the count of their characters.
pub mod VectorMasks
-- Characters are counted by the bits of a mask.
pub mod CharacterCounts
-- A run of bytes that end nothing is a run of whole characters of the class.
pub mod QuietRuns
-- Bytes of a line that end no run: the quiet ones, and those that a break may begin with, but does not.
pub mod ClearRuns
-- A list without the blanks at its end.
pub mod TrimmedLists
-- A run within a line, without the blanks at its end.
pub mod TrimmedRuns

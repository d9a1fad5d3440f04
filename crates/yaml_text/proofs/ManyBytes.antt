-- Many bytes at a time.

-- A mask that is computed lane by lane is held to a predicate at each of the 256 bytes.
pub mod VectorLanes
-- A run of bytes that pass a test is found a vector at a time, through the mask of those that fail it.
pub mod VectorRuns
-- Bytes that are characters by themselves make the front grow by as many characters.
pub mod AsciiFronts
-- Units that are characters of one byte make what was read of UTF-16 grow by as many characters.
pub mod UnitRuns
-- A vector that is computed lane by lane from windows of bytes is a test of each window.
pub mod WindowLanes
-- Tests of sixteen bytes at a time for characters of one and two bytes say what they have to of each byte.
pub mod NarrowLanes
-- Bytes of characters of one and two bytes have clean windows.
pub mod NarrowRuns
-- Bytes whose windows are clean are whole characters.
pub mod WholeRuns
-- Cells that are joined make what was read of UTF-16 grow by the units that they spell.
pub mod CellRuns
-- Four vectors that are put together lane by lane make cells of four bytes.
pub mod CellLanes
-- Vectors that are computed lane by lane from the halves of units are functions of the units.
pub mod UnitLanes
-- Sixteen units of UTF-16 that are cut at 7F, as bytes, and which of these are no characters by themselves.
pub mod AsciiLanes

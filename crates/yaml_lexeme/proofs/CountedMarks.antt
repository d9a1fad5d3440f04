-- Reading ends at places that are not between CR and LF, so that marks are the counted ones.

-- The mark of a place is the one that is counted from the front.
pub mod CountedPlaces
-- A stream end is at the end of a text, and nowhere else.
pub mod LastPlaces
-- Reading ahead from a place that is not between CR and LF to another such place.
pub mod WholePlaces
-- The places where reading ends or is refused are clear.
pub mod ClearReads
-- Literal and folded scalars end, or are refused, at places that are not between CR and LF, and each of their lines takes a character or more.
pub mod WholeBlocks
-- Plain scalars and directives, and the marks of their ends, end at places that are not between CR and LF.
pub mod WholeScalars
-- Gaps, lexemes and problems end at places that are not between CR and LF, and their marks are the counted ones.
pub mod WholeLexemes

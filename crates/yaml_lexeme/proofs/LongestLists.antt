-- What is read is as long as possible.

-- What is read as a list of parts is the longest list.
pub mod LongestParts
-- A gap is the longest text of gap lines joined by breaks.
pub mod GapLongest
-- Quoted scalars are their parts.
pub mod QuotedLongest
-- Plain scalars are their parts, and chunks and links are as long as possible.
pub mod PlainLongest
-- Uris are the longest lists of characters and escapes.
pub mod UriLongest
-- Empty lines and text lines of a block scalar are the longest lists.
pub mod BlockLongest

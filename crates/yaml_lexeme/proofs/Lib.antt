-- How places move, and cursors with them.
pub mod Places
-- What was read, and lists of parts.
pub mod Parts
-- Many bytes at a time.
pub mod ManyBytes
-- What is read a step at a time is what the definitions read at once, kind by kind.
pub mod Readers
-- The order of marks.
pub mod MarkOrder
-- What a lexeme does not depend on.
pub mod Locality
-- Reading ends at places that are not between CR and LF, so that marks are the counted ones.
pub mod CountedMarks
-- What is read is as long as possible.
pub mod LongestLists
-- What the texts of names, tags, directives, escapes and headers are made of.
pub mod Grammars
-- Worked examples, which are computed.
mod Examples
-- What the comparisons that types derive answer.
pub mod Comparisons

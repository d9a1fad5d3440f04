-- How characters are spelled, and their classes.
pub mod Characters
-- What an input decodes to.
pub mod Decodings
-- Marks, and the places that have them.
pub mod Marks
-- Many bytes at a time.
pub mod ManyBytes
-- What the comparisons that types derive answer.
pub mod Comparisons

-- How characters are spelled, and their classes.

-- A character of a text is a scalar value, and not 0.
pub mod CharRanges
-- The character that bytes of UTF-8 begin with: from a character to its octets, and back.
pub mod Utf8Spelling
-- The character that bytes of UTF-16 begin with: from a character to its units, and back.
pub mod Utf16Spelling
-- At the start of a character, and at the end, the byte table of each class is its set of characters.
pub mod ClassTables

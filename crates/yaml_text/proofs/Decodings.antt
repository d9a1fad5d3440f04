-- What an input decodes to.

-- A front that grows by a character is a front.
pub mod DecodeFronts
-- There is one reading of an input, and its front is the longest.
pub mod DecodeReadings
-- What the functions of decoding return is the front, what is wrong after it, and what an input decodes to.
pub mod DecodeResults
-- What is wrong after the front and can not be mended is wrong of every input that goes on from there.
pub mod BrokenBytes
-- The beginning of a front is one of what goes on from there, and the front is found from it on.
pub mod FrontGoesOn
-- Characters with a byte after them that no text has are refused for that byte.
pub mod StandIns
-- A text in UTF-8 is the part of its input that begins after the byte order mark and has as many bytes as the text.
pub mod KeptTexts

-- What is read a step at a time is what the definitions read at once, kind by kind.

-- A gap is read gap line by gap line.
pub mod GapLines
-- Separators are read and folded a character or a break at a time.
pub mod FoldSeparators
-- Which part of a quoted body is read at a place.
pub mod QuotedBody
-- A run within a line is many parts of a quoted body at once.
pub mod QuotedRuns
-- What a line of a quoted body holds unchanged is kept in one piece.
pub mod QuotedLines
-- An escape and the short piece after it are parts of a quoted body.
pub mod ShortTurns
-- The bytes of a run, and those of its trimmed piece, are the first of what is left.
pub mod LineFronts
-- The hexadecimal digits of an escape are read one by one.
pub mod EscapeDigits
-- Chunks, separators and ends of plain scalars are read a character at a time.
pub mod PlainLinks
-- What a line of a plain scalar holds unchanged is kept in one piece.
pub mod PlainLines
-- Literal and folded scalars are read a space and a line at a time.
pub mod BlockLines
-- A literal or folded scalar is the same if the indentation of the line that follows is read with each line.
pub mod BlocksAlike
-- The characters of a run of ASCII are its bytes, as in names and uris.
pub mod NameBytes
-- A tag whose letters are no handle is a uri from its letters on.
pub mod TagUris
-- The octets, escapes and characters of a uri are read one by one.
pub mod UriOctets
-- A run of characters of a uri is many parts of it at once.
pub mod UriRuns
-- The decimal digits of a version are read one by one.
pub mod DirectiveNumbers
-- A lexeme of one character begins with one of ASCII that is no break.
pub mod FirstCharacter
-- A document marker is three characters of ASCII that are no breaks.
pub mod DocumentMarkers

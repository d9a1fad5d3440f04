-- What the texts of names, tags, directives, escapes and headers are made of.

-- A run is the longest text of characters that pass.
pub mod RunTexts
-- What is read or refused in steps and by tests.
pub mod ReadingSteps
-- Names are their letters.
pub mod NameGrammar
-- A uri of an octet or more is its parts.
pub mod UriGrammar
-- Tags are their handles and suffixes.
pub mod TagGrammar
-- Numbers and versions of directives are their digits.
pub mod VersionGrammar
-- The rest of a line is blanks, a comment, and a break or the end.
pub mod LineGrammar
-- Handles and prefixes of tag directives are their texts.
pub mod HandleGrammar
-- Directives are their names and what they say.
pub mod DirectiveGrammar
-- Escapes are a character, or the hex digits of one.
pub mod EscapeGrammar
-- The header of a block scalar is a sign and a digit.
pub mod HeaderGrammar
-- A literal or folded scalar is refused at the first of its parts that the text does not give.
pub mod BlockGrammar

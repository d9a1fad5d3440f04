-- What a lexeme does not depend on.

-- Places that agree on their next characters are one place, or have that many characters.
pub mod AgreeingPlaces
-- What it means that a reader depends on no character eight or more past where it ends.
pub mod LocalReaders
-- A good reader gives the same at places that agree, and ends as far on at both, at a place that is not between CR and LF; so is what is put together from good readers.
pub mod ComposedReaders
-- Lists of parts whose end looks ahead are local together with what is read after them.
pub mod LookaheadLists
-- A kind depends on four characters.
pub mod KindLocality
-- Gaps are good.
pub mod GapLocality
-- Names are good.
pub mod NameLocality
-- Octets, escapes and uris are good.
pub mod UriLocality
-- Tags are good.
pub mod TagLocality
-- Directives are good.
pub mod DirectiveLocality
-- Quoted scalars are good.
pub mod QuotedLocality
-- Chunks and separators of plain scalars are good.
pub mod PlainChunkLocality
-- Plain scalars are good.
pub mod PlainLocality
-- Headers of literal and folded scalars are good.
pub mod HeaderLocality
-- Literal and folded scalars are good.
pub mod BlockLocality
-- Lexemes of every kind are local, and their problems are ahead.
pub mod LexemeLocality

-- Reading of texts: places, order, and what a step does not depend on.
-- The places of a text, by how many characters are before them, and what is read there.
pub mod TextPlaces
-- Where reading a lexeme ends or is refused, and what the lexeme says.
pub mod LexemeReads
-- What is read of the characters of a text is in its order.
pub mod SourceOrder
-- The same for the running scanner: the marks of gaps, lexemes and problems of a text are in order.
pub mod TextOrder
-- What is read of texts that agree a little past its end is the same.
pub mod SourceLocality
-- A step is the same in two sources that read the same up to its place.
pub mod StepLocality
-- A step is the same in two texts that agree a little past its end.
pub mod TextSteps
-- The answers to a refused input are those to every accepted one that agrees with it up to the refused character.
pub mod AnswerLocality
-- What is settled of an unfinished input is that of every input that goes on from it. So it is of a refused one.
pub mod UnfinishedInputs
-- What is settled of the bytes that came so far is that of every input that goes on from them.
pub mod InputPieces
-- What is read of the characters that two inputs share is the same, and at a rest all tokens are settled.
pub mod SharedBeginnings

-- Steps and courses: the steps of an input, how many a token needs, and what is returned.
-- The longest list of steps exists, is a history, and is short.
pub mod LongestCut
-- The step after the first lexemes of a cut gives the next one of them, or its fault.
pub mod NextStep
-- The steps of an input: how they end, which are near, and what they have to do with the cut.
pub mod CourseSteps
-- How many steps a token needs.
pub mod StepsNeeded
-- The token of the stream end is the last one, and no fault comes after it.
pub mod LastToken
-- The laws of tokens hold of the tokens that are returned.
pub mod AnswerOrder
-- Without what the layout inserted, the tokens that are returned are those of the lexemes.
pub mod LexemeTokens
-- No step of a text comes before the end of the one before it.
pub mod StepPlaces
-- The fault of an input is the reader's, or that of the step after the cut.
pub mod FaultAfterCut
-- They hold for any bytes and setting.
pub mod InputLaws

-- What holds along a list of lexemes, with one lexeme more.
pub mod History
-- The offline list: what one lexeme more changes, and the order of its tokens.
pub mod TokenList
-- Steps and courses: the steps of an input, how many a token needs, and what is returned.
pub mod Course
-- Sessions: what lists of calls take and return.
pub mod SessionCalls
-- Reading of texts: places, order, and what a step does not depend on.
pub mod Texts
-- Marks are those that are counted from the front of the text.
pub mod CountedMarks
-- One step of the running scanner is the step of the definitions.
pub mod RunningStep
-- The queue of the running scanner holds the groups that were not taken.
pub mod RunningQueue
-- The calls of the running scanner are those of the session.
pub mod RunningCalls
-- What the comparisons that types derive answer.
pub mod Comparisons
-- Worked inputs, which are computed.
mod Examples

-- What holds along a list of lexemes, with one lexeme more.
-- What the tests of kinds have to do with one another: a value is no candidate, and so on.
pub mod KindTests
-- What each lexeme of a history knows of those before it, and that starts and reaches are in order.
pub mod HistoryOrder
-- The depth after one lexeme more.
pub mod DepthOneOn
-- Whether a key is allowed after one lexeme more, which the depth after it decides.
pub mod AllowedOneOn
-- The candidate of each depth after one lexeme more, and where in a history it is.
pub mod KeyCandidates
-- The open columns after one lexeme more.
pub mod LevelColumns
-- Open columns fall, so that closing pops a stack; the level at a candidate is the level where it is completed.
pub mod LevelsFall

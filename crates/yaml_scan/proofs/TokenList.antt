-- The offline list: what one lexeme more changes, and the order of its tokens.
-- The list with one lexeme more is the list so far with at most one insertion, and then the lexeme's group.
pub mod GroupInsertion
-- Tokens that were handed out are never revised, since a candidate that a `:` completes was still waiting.
pub mod NeverRevised
-- So what is handed out stays, whatever lexemes follow.
pub mod SettledStays
-- After the stream end nothing waits; candidates of greater depths come later.
pub mod AllSettled
-- At most key limit + 1 lexemes are queued.
pub mod QueueBound
-- The lexemes' own tokens are in order; block ends never outnumber block starts.
pub mod BlockEnds
-- Tokens are in order by their marks.
pub mod TokenOrder
-- Every inserted key is followed by its `:`.
pub mod KeyValues
-- There are at most four tokens a step.
pub mod GroupSizes
-- The laws of a list with one lexeme more, put together from the files above.
pub mod OneLexemeMore
-- What holds of the tokens that the layout puts in, and of the lexemes' own tokens, holds of every token of their groups.
pub mod EveryToken

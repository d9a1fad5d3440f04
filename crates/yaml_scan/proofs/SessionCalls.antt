-- Sessions: what lists of calls take and return.
-- The cases of a call, each by itself: what it answers and leaves, by the next token.
pub mod CallCases
-- What calls take of the list, and how many steps are queued after them.
pub mod SessionTokens
-- What a peek shows is what the next scan returns.
pub mod PeekThenScan
-- A fault is returned once.
pub mod OneFault
-- More scans than there are tokens left return all that is left.
pub mod ReadingOn
-- What the answers to calls say of the tokens that were taken.
pub mod TokensTaken
-- Calls, one after the other, are answered by the session, up to a refused growth.
pub mod CallByCall
-- The answers of the code, appended one by one, are those to a list of calls.
pub mod CallsInTurn
-- Every token and every fault that is returned can be put in words.
pub mod AnswerWords
-- So can the answers to a list of calls.
pub mod CallWords
-- So can what one call for all tokens returns.
pub mod ListWords
-- The laws of tokens hold of what one call for all tokens returns.
pub mod ListLaws
-- Whatever the cuts and the calls, the tokens given are the first of the whole input.
pub mod CutsAndCalls

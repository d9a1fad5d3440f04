-- The calls of the running scanner are those of the session.
-- A step of the running scanner is the next one of its input.
pub mod NextOfInput
-- How many steps are made for a token.
pub mod StepsMade
-- From a scanner that is ready to its next token.
pub mod ToNextToken
-- The head of the queue is the next token of the list, and taking it leaves the rest.
pub mod TakingHead
-- What a running scanner has given to a sink is what was taken of its input, step after step.
pub mod GivenTokens
-- The answers to a peek, a scan and a skip are those of the session.
pub mod CallAnswers
-- What a call keeps: how many steps wait, and that they are few.
pub mod ParserInvariant
-- What is taken if memory is refused: the tokens that the steps which were made settle.
pub mod MemoryRefused
-- Scan after scan to the end of an input gives the whole list.
pub mod ScansToTheEnd
-- A sink is given all tokens of an input, or those before its fault, or those that some of the steps settle.
pub mod GivenToEnd
-- A parser that was kept without its input goes on as if it had kept it.
-- What goes straight to a sink that has room for it leaves the scanner that scans of these tokens leave.
pub mod SentTokens
-- Several scans at once: the tokens that a sink was given are those that as many scans return.
pub mod SeveralScans
-- The tokens that a scan has handed out are the next ones of its input.
pub mod HandedOn
-- No token of the group at the head of the queue waits, if it is not that of the candidate which is awaited, and taking
-- the group leaves the rest.
pub mod HeadGroup
-- Tokens of the queue that were given to a sink are those that as many scans return, which make no step more.
pub mod DrainedTokens
-- A parser that has gone on by some tokens, and then by more, or has shown its next token.
pub mod KeptGoesOn
-- The tokens of a kept parser, by the parts that it is scanned with.
pub mod KeptTokens
-- A kept parser that gave tokens to a sink has fewer left.
pub mod KeptFewer
-- The calls of a kept parser: how they begin, and what they leave.
pub mod KeptCalls
-- A running scanner of an unfinished text is a running scanner of every text that goes on from it.
pub mod LongerText
-- A scan over a text that goes on from that of an unfinished one, and one that stopped since more has to come.
pub mod FedText
-- What a scan gives of the bytes that came is what every input has that they may begin.
pub mod FedTokens
-- The calls of a scanner that is given its input in pieces, by what the scan of what came has done.
pub mod FedCalls
-- More bytes came: the scan goes on over the longer text.
pub mod MoreCame
-- A scan over a text that is refused for what is to come has begun, or its first step can't be made.
pub mod FedBegins
-- What a call gives of the scanner that is fed.
pub mod FedGives

-- The queue of the running scanner holds the groups that were not taken.
-- The queue in the words of the definitions: which tokens are in it, and which are settled.
pub mod QueueTokens
-- The queue with one group more, and with a candidate's group that becomes a key.
pub mod QueueGroups
-- Where in the queue the group of a candidate is.
pub mod CandidateGroup
-- Candidates of greater depths start later, and their tokens are further on.
pub mod SlotOrder
-- The lowest slots: those that are empty, and the first that is not.
pub mod EmptySlots
-- The head of the queue is the next token exactly if no candidate that is held is the head.
pub mod HeadIsNext
-- If no candidate is awaited, all tokens that were made are settled, and the groups of the queue hand them out.
pub mod WholeQueue
-- Where no token is queued, there is no candidate.
pub mod NoCandidates
-- No candidate is awaited after a lexeme that is none, where there was none before it.
pub mod NoneAwaited
-- How many steps are queued can be counted in the queue, since each has one token of its own lexeme.
pub mod StepsInQueue
-- How many steps wait, as more steps are made and tokens are taken.
pub mod StepsWaiting
-- What a group hands out, and that a sink was given it token by token.
pub mod GroupTokens
-- How many bytes the texts of a group have: only its own token has any.
pub mod GroupTexts

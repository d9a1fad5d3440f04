-- One step of the running scanner is the step of the definitions.
-- The first step: what a new scanner holds.
pub mod FirstStep
-- What the scanner keeps of the candidates is what a step tests of them.
pub mod SlotTests
-- The tests of a step before its lexeme are those of the definition, from what the scanner computes.
pub mod TestsBefore
-- Closing levels: a stack whose top stays keeps all, and its last level is the greatest.
pub mod LevelStack
-- What the slot of each depth holds after one lexeme more.
pub mod SlotsOneOn
-- What a scanner holds is held by another one with the same parts, or with more room.
pub mod HeldBeside
-- What the whole scanner holds after one lexeme more.
pub mod ScannerOneOn
-- The tests of a step after its lexeme, and that the lexeme is laid as the definition says.
pub mod StepLaid
-- A lexeme and what comes right after it are laid together, if the second one can be laid after the first.
pub mod TwoLaid
-- A candidate and what decides it are laid at once as they are laid one after the other.
pub mod DecidedLaid
-- A lexeme that was read is laid if levels, queue and slots change as its definition says.
pub mod StepPut
-- What a step has tested, and what it stops with.
pub mod StepTests
-- What changes in a scanner within a step, and what stays.
pub mod StepMoves
-- What was laid is handed on: into the queue, or straight to a sink.
pub mod StepHanded
-- A lexeme that has to wait and what comes right after it are laid at once as they are laid one after the other.
pub mod WaitingLaid
-- A scalar that stands in the text is laid as the token that it is.
pub mod LentTokens
-- A key in the column of a level, and a value, are laid where nothing is queued.
pub mod UsualLaid
-- A scalar in flow that is met where nothing is queued is laid with what comes right after it, or alone.
pub mod FlowLaid

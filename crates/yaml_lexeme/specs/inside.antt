-- The running code: what its readers return and keep, and what they look for first. No contract of a public call
-- needs these.
pub mod BlockAhead
pub mod Moves
pub mod Runs
pub mod ShortRuns
pub mod CommonEscapes
pub mod Gives
pub mod Words
pub mod Tails

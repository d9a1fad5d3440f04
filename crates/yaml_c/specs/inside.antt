-- The running code: how tokens are put into two rooms, and how a batch is made. No contract of a public call needs
-- these.
pub mod Sink
pub mod Batch
pub mod PieceBatch
pub mod MorePut
pub mod Bare
pub mod Spelled

-- The running code: what is appended to bytes that grow, and lines of tokens in turn. The contract of `run` needs none
-- of it.
pub mod Put
pub mod TokenLines
pub mod Following

-- The running code: what its cursor and its readers keep, and what they look for first. No contract of a public call
-- needs these.
pub mod Cursor
pub mod Fronts
pub mod Singles
pub mod Cells
pub mod Units
pub mod Windows

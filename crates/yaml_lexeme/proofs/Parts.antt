-- What was read, and lists of parts.

-- What was read, taken apart into its value and its place.
pub mod ReadResults
-- A list of parts is its first part and the list after it.
pub mod PartByPart
-- A list of parts can be gathered into a state one part at a time.
pub mod GatheredParts
-- What holds of what was read, and of the place of an offence.
pub mod HeldReads

-- What the comparisons that types derive answer.

-- Two values compare equal exactly if each of their parts does.
pub mod SameParts
-- Two tokens compare equal exactly if the definitions see the same in them.
pub mod SameTokens
-- Two faults compare equal exactly if the definitions see the same in them.
pub mod SameFaults
-- Types of tokens are compared by their numbers.
pub mod TypeOrder

-- What the comparisons that types derive answer.

-- Two lexemes compare equal exactly if the definitions see the same in them.
pub mod SameLexemes

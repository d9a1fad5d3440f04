-- What the comparisons that types derive answer.

-- Two answers compare equal exactly if the same can be seen of them.
pub mod SameAnswers

-- Laws that the proofs share: a number's digits, how long a line is, how lines are numbered, pages printed one after the other, the answers that a run leaves.
pub mod Answers
pub mod Decimal
pub mod Lengths
pub mod Numbering
pub mod Paging

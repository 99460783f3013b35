-- Laws that the proofs of several functions cite, and what the postings of a fill leave.
pub mod Behind
pub mod Posted

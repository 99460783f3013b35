-- What an answer of `find` tells, which the proofs of its callers cite.
pub mod Told

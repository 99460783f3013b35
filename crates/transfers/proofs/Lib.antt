-- What is known of units that may be locked or unlocked, which the proofs of both cite.
pub mod Locked

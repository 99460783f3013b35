-- The law that the proofs of functions and the theorems cite: how long a record that was read is.
pub mod Within

-- Laws that callers and the proofs of functions cite: what is charged is what one contract costs; signed differences.
pub mod Charged
pub mod Signed

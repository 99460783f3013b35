-- Laws about numbers and entries in records, which the proofs of reading and of writing and the theorems cite.
pub mod EachKind
pub mod Halves
pub mod Limits
pub mod LittleEndian
pub mod Runs
pub mod Words

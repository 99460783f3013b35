-- A law that the proofs share: an array is filled where its first rows are.
pub mod Filling

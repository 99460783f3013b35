-- What this product promises, as theorems over the crates' definitions and over the contracts generated from their functions.
pub mod Answers
pub mod Entries
pub mod Expiry
pub mod Gift
pub mod Records

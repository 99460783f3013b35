-- The words of document 01 and the numbers it gives for them; sums, lists and tests over numbered things.
pub mod Codes
pub mod Counts
pub mod Kinds
pub mod Listed
pub mod Ranges
pub mod Refusals
pub mod Sums
pub mod Verdicts

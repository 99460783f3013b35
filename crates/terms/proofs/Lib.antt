-- Facts about the words that the layers above lean on.
pub mod Codes
pub mod Listed
pub mod Product
pub mod Ranges
pub mod Refusals
pub mod Sums

-- What the theorems speak of besides the crates' own definitions.
pub mod Each
pub mod EveryEntry
pub mod Expiry
pub mod Gift
pub mod GiftRuns
pub mod InOrder
pub mod Postings
pub mod Records
pub mod Says
pub mod Staged
pub mod WithEighteen
pub mod WorkedCases
pub mod WrongDesks

-- Demand 3: X fen more and limits at least as high; and what demand 3 alone would let through.
pub mod BooksBeside
pub mod ChecksToo
pub mod DayEndToo
pub mod EntriesToo
pub mod FillToo
pub mod GiftOfLists
pub mod GiftOfRuns
pub mod ListsBeside
pub mod LocksToo
pub mod OrderToo
pub mod Relisted
pub mod RunsBeside
pub mod ShutOut
pub mod TransfersToo
pub mod WrittenAlike

-- The account, as document 01's "The account", "Orders and fills", "Limits" and "Day end" state it.
pub mod Changes
pub mod Checks
pub mod DayEnd
pub mod Fills
pub mod InOrder
pub mod Locks
pub mod Money
pub mod Opening
pub mod Orders
pub mod Room
pub mod Rows
pub mod Running
pub mod Seen
pub mod Sound
pub mod Steps
pub mod Totals
pub mod Transfers

-- What is decided about an entry, and what booking it leads to; the rules are in `account`.
pub mod Booked

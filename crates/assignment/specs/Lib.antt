-- Assignment of exercised contracts, as document 02's #105 and 002's question 23 state it.
pub mod Assignment
pub mod Lent
pub mod Stated
pub mod Steps

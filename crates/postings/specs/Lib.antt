-- What each posting leaves of the money sheet, and what it needs.
pub mod Postings
pub mod Room

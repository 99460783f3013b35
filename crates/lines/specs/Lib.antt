-- Where lines end.
pub mod Ends

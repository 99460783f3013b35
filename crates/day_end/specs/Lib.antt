-- What a day end asks of its figures, and what its loops come back with; the rules are in `account`.
pub mod Ended
pub mod Passes

-- What a decision comes to when it is booked, which the proofs of the step and of a ruling cite.
pub mod Booking

-- Laws of a record that is entered, ruled first and then booked, which the proofs of functions and the theorems cite.
pub mod Booking
pub mod EnteredSound
pub mod Entering

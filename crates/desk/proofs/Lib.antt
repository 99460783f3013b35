-- What the proofs of a run rest on: what an answer leaves and how a ruling gives it, a run turn by turn, a run that goes on where another stands, and how many places are enough.
pub mod Answered
pub mod Onward
pub mod Places
pub mod Ruled
pub mod Started
pub mod Turns

-- Laws about assignment, which the proofs of functions and the theorems cite.
pub mod Decides
pub mod Divided
pub mod Filled
pub mod HandedOut
pub mod Largest
pub mod Served
pub mod Within

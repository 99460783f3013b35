-- Laws of a pass over rows, which the proofs of the functions cite.
pub mod Listing
pub mod MarginPass
pub mod RowPass
pub mod Summed
pub mod TotalsPass
pub mod Turn
pub mod UnitsPass

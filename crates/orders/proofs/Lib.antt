-- The walk over the table of checks, which the proof of the verdict cites.
pub mod ByFlags
pub mod Walk

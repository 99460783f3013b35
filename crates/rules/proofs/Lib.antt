-- Laws of the arithmetic that the functions' proofs and the layers above lean on.
pub mod Bounds
pub mod Less
pub mod Netting
pub mod Rounding

-- What is known of rows that are read and of an allowed order, which the proofs of functions cite.
pub mod Known
pub mod Named
pub mod RowsRead

-- What the rows of the two tables satisfy.
pub mod Rows

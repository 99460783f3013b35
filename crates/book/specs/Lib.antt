-- What the book program prints.
pub mod Lines

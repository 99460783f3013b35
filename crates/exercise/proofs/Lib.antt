-- Laws of a request for exercise.
pub mod Good

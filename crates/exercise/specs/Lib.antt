-- What a request for exercise is judged by.
pub mod Exercise

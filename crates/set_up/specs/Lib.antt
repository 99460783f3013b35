-- Set-up, as document 01's "Records" and "Refusal numbers" state it.
pub mod Rulings
pub mod Sound
pub mod Stages

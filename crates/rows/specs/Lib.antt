-- Tables and opening cash given whole, as document 01's "Numbers" and "Refusal numbers" judge them.
pub mod Given

-- Reading records, as document 01's "Records" and "Refusal numbers" state it.
pub mod Reading

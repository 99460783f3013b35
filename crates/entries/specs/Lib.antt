-- Entries and the table of their records, as document 01's "Records" states them. Table has the kinds, fields and widths; lengths, reading and writing go by it.
pub mod Entries
pub mod Names
pub mod Numbers
pub mod Table

-- Running a list and a book, as document 01's "Records" and "Figures to meet" state it.
pub mod Ruled
pub mod Runs

-- What stands between the words of a line.
pub mod Blanks

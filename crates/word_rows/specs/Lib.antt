-- Tables of words, and tests of their fields.
pub mod Field
pub mod Rows
pub mod Tree

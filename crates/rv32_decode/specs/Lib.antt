-- Scalar instruction words: what each means, by a table of rows.
pub mod Opcodes
pub mod Formats
pub mod Rows
pub mod Spelling
pub mod Tests

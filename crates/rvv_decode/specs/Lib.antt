-- The vector words of the Zve32x profile: the table of their rows, what a word means, and the word of an instruction.
pub mod Layouts
pub mod Shapes
pub mod OpiRows
pub mod OpmRows
pub mod ConfigRows
pub mod MemoryRows
pub mod Rows
pub mod FieldTests
pub mod Ranges
pub mod Spelling

-- Lemmas on keys and slices, and on what the calls of a chain do.
pub mod KeysOf
pub mod SlicesLemmas
pub mod Matching
pub mod Rows
pub mod Fresh
pub mod Words
pub mod Placing
pub mod WordRows
pub mod Sets
pub mod Searching
pub mod Updating
pub mod Passing
pub mod Registers

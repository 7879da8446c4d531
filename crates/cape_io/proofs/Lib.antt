-- Lemmas on shelves, and on bytes that a sink takes piece by piece.
pub mod ShelfLemmas
pub mod Writing

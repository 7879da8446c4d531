-- Lemmas on the pieces of texts, and on rows.
pub mod Pieces
pub mod RowLemmas

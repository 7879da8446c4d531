-- Lemmas on texts of pieces, and on the bits of a row.
pub mod PieceLemmas
pub mod WorkLemmas

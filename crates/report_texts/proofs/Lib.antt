-- Lemmas on texts and on their pieces.
pub mod LayoutLemmas
pub mod PieceLemmas
pub mod StateLemmas

-- Lemmas on numbers, lists and texts.
pub mod NumberLemmas

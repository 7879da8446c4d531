-- Lemmas on the words of a command line.
pub mod GrammarLemmas

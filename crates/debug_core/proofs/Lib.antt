-- Lemmas on sessions.
pub mod Saying
pub mod Whole

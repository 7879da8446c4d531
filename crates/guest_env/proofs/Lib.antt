-- Lemmas on what is written and taken piece by piece, and on what the clauses of a call give.
pub mod Pieces
pub mod Writing
pub mod Taking
pub mod Answering
pub mod Using

-- Lemmas on the commands of a session.
pub mod Steps
pub mod Answering
pub mod Desks

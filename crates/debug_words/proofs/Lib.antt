-- Lemmas on the reading of lines, on digits, pieces and commands.
pub mod Reading
pub mod Digits
pub mod Pieces
pub mod Commands

-- The word of an instruction, and what an instruction keeps.
pub mod WordLaws
pub mod Keeping

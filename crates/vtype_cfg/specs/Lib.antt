-- The settings of the vector unit, and which vector instructions are legal under them.
pub mod Settings
pub mod Groups
pub mod Classes
pub mod Legality
pub mod CodeTypes

-- The proofs of the kinds that act bit by bit.
pub mod Tables
pub mod FrameSteps

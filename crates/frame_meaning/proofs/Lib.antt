-- The proofs of the laws of instructions in the frame.
pub mod Meaning
pub mod OperandWidths
pub mod Instructions
pub mod Masks
pub mod Halves
pub mod Clips
pub mod Wholes
pub mod Quiet

-- The proofs of the laws of the frame of instructions that make a mask.
pub mod Parts
pub mod Frames
pub mod Bytes
pub mod Costs
pub mod Ranges

-- The proofs of the frame's laws.
pub mod Elements
pub mod Ends
pub mod Spans
pub mod Windows
pub mod Registers
pub mod Preparing
pub mod Costs
pub mod Bytes
pub mod Singles
pub mod Clips
pub mod Masks
pub mod Classes

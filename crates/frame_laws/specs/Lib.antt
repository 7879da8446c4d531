-- The frame of vector instructions: the operations that stand round what computes a result, what they make of the
-- registers, and the laws of it.
pub mod Shapes
pub mod Spans
pub mod Programs
pub mod Meaning
pub mod Realising
pub mod Laws
pub mod Preparing
pub mod Costs
pub mod Bytes
pub mod Singles
pub mod Clips
pub mod Masks
pub mod Classes

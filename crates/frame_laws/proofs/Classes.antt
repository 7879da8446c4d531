-- The proofs of the classes' laws.
pub mod Operands
pub mod Spreading
pub mod Plain
pub mod PlainClips
pub mod Halves
pub mod Halved
pub mod HalvedClips
pub mod Compared

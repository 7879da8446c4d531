-- The proofs of the kinds that move elements.
pub mod Rewriting
pub mod Moving

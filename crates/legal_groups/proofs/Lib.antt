-- The proofs of the facts of legality.
pub mod Valid
pub mod Widths
pub mod Rules
pub mod Overlaps
pub mod Laws
pub mod Groups
pub mod Accesses

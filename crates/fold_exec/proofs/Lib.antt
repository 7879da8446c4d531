-- The proofs of the plans.
pub mod Cuts
pub mod Table
pub mod Quiet
pub mod Counting
pub mod Reduces
pub mod Folded
pub mod Reducing

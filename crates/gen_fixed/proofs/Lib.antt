-- The proofs of the laws of fixed point.
pub mod Operands
pub mod Totals
pub mod Averages
pub mod Bounds
pub mod Bounded
pub mod Unsigned
pub mod Signed
pub mod Fits
pub mod Families
pub mod Costs
pub mod Written
pub mod Narrowing
pub mod Wide
pub mod Leaving
pub mod WideCosts
pub mod Composed

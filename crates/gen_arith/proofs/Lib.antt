-- The proofs of the laws of the kinds that carry from bit to bit.
pub mod Ripple
pub mod Rows
pub mod Numbers
pub mod Sums
pub mod Costs
pub mod Written
pub mod Orders
pub mod Truths
pub mod Choices
pub mod Families

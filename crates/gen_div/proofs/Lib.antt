-- The proofs of the laws of divisions.
pub mod Tables
pub mod Quotients
pub mod Negatives
pub mod Whole
pub mod Fits
pub mod Written
pub mod Costs
pub mod Families

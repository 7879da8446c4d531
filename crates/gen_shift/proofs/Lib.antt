-- The proofs of the laws of shifts and of the extension by a sign.
pub mod Stays
pub mod Single
pub mod GoneOut
pub mod Stage
pub mod Barrel
pub mod Shifts
pub mod Adding
pub mod Rounded
pub mod OutCosts
pub mod Fits
pub mod Written
pub mod Costs
pub mod RoundedCosts
pub mod Extension
pub mod Families

-- The proofs of the laws of products.
pub mod Tables
pub mod Products
pub mod Signs
pub mod Whole
pub mod Exact
pub mod Saturation
pub mod Fractional
pub mod Clipped
pub mod Fits
pub mod Written
pub mod Costs
pub mod Families
pub mod FractionLists
pub mod FractionLaws
pub mod FractionCosts

-- The lists of orders, what they cost, and what they compute.
pub mod Lists
pub mod Kinds
pub mod Laws
pub mod Folds

-- The lists of products, their values, and that the lists compute them.
pub mod Lists
pub mod Kinds
pub mod Fractions
pub mod Laws

-- The lists of fixed point, their values, and that the lists compute them.
pub mod Values
pub mod Lists
pub mod Kinds
pub mod Laws

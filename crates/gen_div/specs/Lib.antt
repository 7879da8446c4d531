-- The lists of divisions, their values, and that the lists compute them.
pub mod Rows
pub mod Lists
pub mod Kinds
pub mod Laws

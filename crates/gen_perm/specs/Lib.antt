-- The lists that move elements, what they make of a register, and what they cost.
pub mod Moves
pub mod Lists
pub mod Laws

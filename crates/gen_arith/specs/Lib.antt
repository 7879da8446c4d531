-- The lists of the kinds that carry from bit to bit, and when they realise them.
pub mod Recipes
pub mod Starts
pub mod Kinds
pub mod Laws

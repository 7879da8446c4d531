-- The lists of the kinds that act bit by bit, their values, and that the lists realise them.
pub mod Recipes
pub mod Values
pub mod Laws

-- The programs of vector instructions.
pub mod Recipes
pub mod Programs
pub mod Moves

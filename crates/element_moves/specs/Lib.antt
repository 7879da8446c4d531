-- What permutations leave, and what the code does to one element.
pub mod Permutations
pub mod Steps

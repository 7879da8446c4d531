-- The parts of the lists of products and of quotients.
pub mod Sums

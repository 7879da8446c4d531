-- Folds over the numbers below another.
pub mod Folds

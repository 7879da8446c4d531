-- Sums and tests of the numbers below another.
pub mod Totals
pub mod Anys

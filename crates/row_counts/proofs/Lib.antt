-- The lists, as they are written, what they cost, widths, and what counts make of rows and numbers.
pub mod Written
pub mod Costs
pub mod Widths
pub mod Rows
pub mod Chosen
pub mod Taken
pub mod Sums
pub mod Groups
pub mod Folding

-- What sums of rows and rows moved by one place make of an element, and what they cost.
pub mod Kept
pub mod Places
pub mod Totals
pub mod Numbers
pub mod Fits
pub mod Written
pub mod Costs

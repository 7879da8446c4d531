-- Groups of registers, the lists that count the bits of their elements, and what these cost.
pub mod Spans
pub mod Lists
pub mod Costs
pub mod Puts
pub mod Folds

-- What the lists cost, and what they compute.
pub mod Costs
pub mod Firsts
pub mod MaskLaws
pub mod Sums
pub mod Bitwise
pub mod Folding

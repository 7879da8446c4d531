-- The lists of reductions and of kinds on masks, what they cost, and what they compute.
pub mod Kinds
pub mod Masks
pub mod Laws
pub mod Folding

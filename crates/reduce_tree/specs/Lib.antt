-- What the tree says of the tags of a chain, and what it makes of a number of them.
pub mod Tags
pub mod Weights

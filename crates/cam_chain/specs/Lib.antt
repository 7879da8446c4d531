-- The slices of an associative memory, and what its calls do to them.
pub mod Slices
pub mod KeyPairs
pub mod ChainValue
pub mod Views

-- What the network that moves bits between the columns of a chain does to its slices.
pub mod Network
pub mod Moves
pub mod Rows
pub mod Runs
